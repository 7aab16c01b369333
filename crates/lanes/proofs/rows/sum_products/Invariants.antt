use Rattle.lanes.proofs.Words.{◌≡◌, take, dot}
use Rattle.lanes.proofs.rows.sum_products.Given as goal

abbrev pub invariant-loop-k : goal.invariant-loop-k
invariant-loop-k l = l.sum ≡ dot l.xs (take l.k l.ys)
