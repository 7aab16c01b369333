-- A row that a pivot makes, where all its numbers are short.
use Rattle.std.specs.Prelude.{◌≡◌, ℕ, ℤ, Bool, false, ◌&&◌, IsTrue, IsFalse, Option, IfSome, IfNone, List}
use Rattle.std.specs.List.{list_all}
use Rattle.pip_model.specs.Rows.{Row}
use Rattle.row_laws.specs.Flat.{row_of_numbers}
use Rattle.row_laws.specs.Short.{is_short, IsShortRow}
use Rattle.row_laws.specs.Rows.{row_from}
use Rattle.short_row.specs.Sized.{IsShortReduced, places_of}

-- whether all numbers of a row are short
abbrev pub is_short_row : Row → Bool
is_short_row r = is_short r.den && (list_all is_short r.coefs && list_all is_short r.constant)

-- the denominator that makes row r of these coefficients and this constant form, none where a number of r is not short
pub record IsDenominatorOf (r : Row) (coefs constant : List ℤ) (den : Option ℤ) : Type 0 where
  pub value : IfSome den (λ d. row_from d coefs constant ≡ r)
  pub short : IfSome den (λ d. IsShortRow (row_from d coefs constant))
  pub long : IfNone den (is_short_row r ≡ false)

-- whether all numbers of row r are short, and then these are its numbers
pub record IsTurned (n : ℕ) (r : Row) (short : Bool) (zs : List ℤ) : Type 0 where
  pub value : IsTrue short → row_of_numbers n zs ≡ r
  pub row : IsTrue short → IsShortReduced n (places_of n zs) (row_of_numbers n zs)
  pub long : IsFalse short → is_short_row r ≡ false
