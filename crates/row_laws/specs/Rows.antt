-- A row as the definition's, its size and its common divisor.
use Rattle.std.specs.Prelude.{◌≡◌, ℕ, ◌+◌, ◌-◌, ℤ, pos, ◌≤ℤ◌, List, length, All}
use Rattle.pip_model.specs.Numbers.{gcd, gcd_of}
use Rattle.pip_model.specs.Rows.{Row}
use Rattle.short_numbers.specs.Checks.{Fits}

-- a row over n columns, whose constant form stands over w places
pub record IsRow (n w : ℕ) (r : Row) : Type 0 where
  pub positive : pos 1 ≤ℤ r.den
  pub den_fits : Fits r.den
  pub coefs : length r.coefs ≡ n
  pub constant : length r.constant ≡ w + 1
  pub coefs_fit : All Fits r.coefs
  pub constant_fit : All Fits r.constant

-- the greatest common divisor of all numbers of a row
abbrev pub content : Row → ℤ
content r = gcd r.den (gcd (gcd_of r.coefs) (gcd_of r.constant))

-- the numbers of a row have no common divisor
abbrev pub IsReduced : Row → Type 0
IsReduced r = content r ≡ pos 1

-- the row of a denominator, coefficients and a constant form
abbrev pub row_from : ℤ → List ℤ → List ℤ → Row
row_from den coefs constant = record { den = den; coefs = coefs; constant = constant }

-- a row over the columns and places that it has
abbrev pub IsOwnRow : Row → Type 0
IsOwnRow r = IsRow (length r.coefs) (length r.constant - 1) r
