use Rattle.lanes.proofs.Words.{◌≡◌, ◌<◌, ◌^◌, nat_lt, unsigned_abs, entry, left_of}
use Rattle.lanes.proofs.Writing.{Written}
use Rattle.lanes.proofs.rows.leave.Given as goal

abbrev pub invariant-loop-k : goal.invariant-loop-k
invariant-loop-k l = Written (λ k z. (z ≡ left_of l.l (nat_lt 0 k) (entry l.fn.row k)) × (unsigned_abs z < 2 ^ 31)) l.fn.row l.row l.k
