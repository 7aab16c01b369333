-- Rows whose numbers stand over one denominator.
use Rattle.std.specs.Prelude.{ℕ, ◌^◌, ◌<◌, ◌≤◌, ℤ, pos, ◌≤ℤ◌, unsigned_abs, List, take, drop, All}
use Rattle.pip_model.specs.Rows.{Row}
use Rattle.form_laws.specs.Bounds.{AllWithin}
use Rattle.form_laws.specs.Columns.{IsScaled}

-- the row of these numbers over n columns, all of them over l
abbrev pub row_over : ℕ → ℤ → List ℤ → Row
row_over n l zs = record { den = l; coefs = take n zs; constant = drop n zs }

-- rows over n columns and w places; l is a multiple of their denominators, and over l no number of them, nor l itself, is
-- greater than m
pub record AreScaled (n w : ℕ) (l : ℤ) (m : ℕ) (rows : List Row) : Type 0 where
  pub each : All (IsScaled n w l) rows
  pub positive : pos 1 ≤ℤ l
  pub common : unsigned_abs l ≤ m
  pub within : AllWithin m l rows
  pub small : m < 2 ^ 63
