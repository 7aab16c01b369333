-- A row with another put in by factors in lowest terms.
use Rattle.std.specs.Prelude.{◌≡◌, ℕ, ◌<◌, ℤ, pos, ◌*ℤ◌, slice_set}
use Rattle.pip_model.specs.Numbers.{gcd}
use Rattle.pip_model.specs.Forms.{combine}
use Rattle.pip_model.specs.Rows.{Row}
use Rattle.row_laws.specs.Rows.{IsReduced}

-- x and y are a and b over a divisor of both, and have no common divisor
pub record AreLowest (a b x y : ℤ) : Type 0 where
  pub divisor : ℕ
  pub positive : 0 < divisor
  pub first : a ≡ pos divisor *ℤ x
  pub second : b ≡ pos divisor *ℤ y
  pub alone : gcd x y ≡ pos 1

-- x times row i less y times row p, but in column c y times the denominator of p
abbrev pub substituted_by : ℤ → ℤ → Row → ℕ → Row → Row
substituted_by x y p c i = record {
  den = i.den *ℤ x;
  coefs = slice_set (combine x i.coefs y p.coefs) c (y *ℤ p.den);
  constant = combine x i.constant y p.constant;
}

-- the numbers of neither row have a common divisor
pub record AreReduced (p r : Row) : Type 0 where
  pub first : IsReduced p
  pub second : IsReduced r
