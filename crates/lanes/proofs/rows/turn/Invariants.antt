use Rattle.lanes.proofs.Words.{◌≡◌, ◌-ℤ◌, ◌*ℤ◌, entry}
use Rattle.lanes.proofs.Writing.{Written}
use Rattle.lanes.proofs.rows.turn.Given as goal

abbrev pub invariant-loop-k : goal.invariant-loop-k
invariant-loop-k l = Written (λ k z. z ≡ l.a *ℤ entry l.fn.row k -ℤ l.b *ℤ entry l.ys k) l.fn.row l.row l.k
