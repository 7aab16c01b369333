-- Rows whose numbers have 64 bits.
use Rattle.std.specs.Prelude.{◌≡◌, ℤ, Bool, List, length, All, IsTrue}
use Rattle.pip_model.specs.Forms.{combine}
use Rattle.pip_model.specs.Rows.{Row}
use Rattle.short_numbers.specs.Checks.{Fits}
pub use Rattle.short_numbers.specs.Short.{is_short, IsShort, IsHalf, AreShort, AreHalf}

-- as many short numbers in one list as in the other
pub record AreShortLists (r s : List ℤ) : Type 0 where
  pub lengths : length r ≡ length s
  pub first : All IsShort r
  pub second : All IsShort s

-- a*r - b*s is made, of numbers that fit, and short ones where that is known
pub record IsCombined (a : ℤ) (r : List ℤ) (b : ℤ) (s : List ℤ) (known : Bool) (made : List ℤ) : Type 0 where
  pub value : made ≡ combine a r b s
  pub fits : All Fits made
  pub short : IsTrue known → All IsShort made

-- all numbers of a row are short
pub record IsShortRow (r : Row) : Type 0 where
  pub den : IsShort r.den
  pub coefs : All IsShort r.coefs
  pub constant : All IsShort r.constant

-- those of both rows
pub record AreShortRows (p r : Row) : Type 0 where
  pub first : IsShortRow p
  pub second : IsShortRow r
