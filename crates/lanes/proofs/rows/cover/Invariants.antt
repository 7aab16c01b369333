use Rattle.lanes.proofs.Writing.{Written, Covers}
use Rattle.lanes.proofs.rows.cover.Given as goal

abbrev pub invariant-loop-k : goal.invariant-loop-k
invariant-loop-k l = Written (Covers l.fn.row l.ys) l.fn.row l.row l.k
