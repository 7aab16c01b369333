use Rattle.form_basis.proofs.Words.{◌≡◌, ℕ, ◌+◌, ◌<◌, ◌*ℤ◌, entry, summed}
use Rattle.form_basis.proofs.row_test.makes_row.Given as goal

abbrev pub invariant-loop-k : goal.invariant-loop-k
invariant-loop-k l = (j : ℕ) → j < l.k → summed l.places l.basis l.form j *ℤ l.den ≡ entry l.row (j + 1) *ℤ l.basis.scale
