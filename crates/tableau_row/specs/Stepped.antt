-- A step of a row.
use Rattle.std.specs.Prelude.{◌≡◌, ℕ}
use Rattle.pip_model.specs.Numbers.{gcd}
use Rattle.pip_model.specs.Forms.{entry}
use Rattle.pip_model.specs.Rows.{Row}
use Rattle.row_laws.specs.Lowest.{AreLowest}
use Rattle.tableau_row.specs.declared.step.Step.{Step}

-- the step of row r in the pivot on row p and column c
pub record IsStep (p : Row) (c : ℕ) (r : Row) (s : Step) : Type 0 where
  pub lowest : AreLowest (entry p.coefs c) (entry r.coefs c) s.row s.pivot
  pub divisor : s.divisor ≡ gcd r.den p.den
