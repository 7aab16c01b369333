use Rattle.lanes.proofs.Words.{◌≡◌, ◌*ℤ◌, entry}
use Rattle.lanes.proofs.Writing.{Written}
use Rattle.lanes.proofs.rows.divide.Given as goal

abbrev pub invariant-loop-k : goal.invariant-loop-k
invariant-loop-k l = Written (λ k z. l.l *ℤ z ≡ entry l.fn.row k) l.fn.row l.row l.k
