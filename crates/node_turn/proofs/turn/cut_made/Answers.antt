use Rattle.node_turn.proofs.Words.{rules, ◌≡◌}
use Rattle.node_turn.proofs.turn.cut_made.Goals as goal

pub returns-clause-gives : goal.returns-clause-gives
returns-clause-gives c =
    let same : c.in_ok-made.made ≡ c.args.rows.now = search rules in
    rw (c.put.ensures, ← same) c.cut_turn-turn.ensures.gives

pub returns-clause-turn : goal.returns-clause-turn
returns-clause-turn c =
    let same : c.in_ok-made.made ≡ c.args.rows.now = search rules in
    rw (c.put.ensures, ← same) c.cut_turn-turn.ensures.turn
