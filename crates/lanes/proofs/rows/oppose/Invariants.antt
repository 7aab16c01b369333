use Rattle.lanes.proofs.Words.{◌≡◌, neg_ℤ, entry}
use Rattle.lanes.proofs.Writing.{Written}
use Rattle.lanes.proofs.rows.oppose.Given as goal

abbrev pub invariant-loop-k : goal.invariant-loop-k
invariant-loop-k l = Written (λ k z. z ≡ neg_ℤ (entry l.fn.row k)) l.fn.row l.row l.k
