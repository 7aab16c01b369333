use Rattle.node_turn.proofs.Words.{rules, ◌≡◌, ◌+◌, replicate, pos, row_at}
use Rattle.node_turn.proofs.Scanning.{zeros_nonneg}
use Rattle.node_turn.proofs.scan.is_made_nowhere_below.Goals as goal

pub returns-in-Some : goal.returns-in-Some
returns-in-Some c = λ _.
    let unit : (row_at c.args.rows.now.rows c.args.i).constant ≡ replicate (c.args.rows.now.width + 1) (pos 0) = search rules in
    rw unit (zeros_nonneg (c.args.rows.now.width + 1))
