use Rattle.lanes.proofs.Words.{◌≡◌, take, list_all, is_nonneg}
use Rattle.lanes.proofs.rows.are_nowhere_below.Given as goal

abbrev pub invariant-loop-k : goal.invariant-loop-k
invariant-loop-k l = l.all ≡ list_all is_nonneg (take l.k l.row)
