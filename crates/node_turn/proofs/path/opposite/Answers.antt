use Rattle.node_turn.proofs.Words.{rules, ◌≡◌, opposite, length-opposite}
use Rattle.node_turn.proofs.path.opposite.Goals as goal

pub returns-clause-length : goal.returns-clause-length
returns-clause-length c =
    let made : c.opposite.new.self ≡ opposite c.args.condition.now = search rules in
    rw made (length-opposite c.args.condition.now c.requires.some)
