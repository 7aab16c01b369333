-- Short numbers that are put together, and what is made of them.
use Rattle.std.specs.Prelude.{◌≡◌, ℤ, pos, ◌≤ℤ◌, Bool, false, IsTrue, IsFalse, Option, IfSome, IfNone, List, length, All}
use Rattle.std.specs.List.{list_all}
use Rattle.affine_forms.specs.Checks.{Fits}
use Rattle.short_numbers.specs.Short.{is_short, IsShort}

-- the terms of a*r - b*s are short, and r has as many entries as s
pub record AreTerms (a : ℤ) (r : List ℤ) (b : ℤ) (s : List ℤ) : Type 0 where
  pub lengths : length r ≡ length s
  pub row_factor : IsShort a
  pub row : All IsShort r
  pub pivot_factor : IsShort b
  pub pivot : All IsShort s

-- d lies from 1 to 2^127 - 1
pub record IsDivisor (d : ℤ) : Type 0 where
  pub positive : pos 1 ≤ℤ d
  pub fits : Fits d

-- z in 64 bits, where it is short
pub record IsNarrowed (z : ℤ) (n : Option ℤ) : Type 0 where
  pub value : IfSome n (λ x. x ≡ z)
  pub short : IfSome n IsShort
  pub long : IfNone n (is_short z ≡ false)

-- whether all numbers of zs are short, and then they are made
pub record AreNarrowed (zs : List ℤ) (all : Bool) (made : List ℤ) : Type 0 where
  pub value : IsTrue all → made ≡ zs
  pub short : IsTrue all → All IsShort made
  pub long : IsFalse all → list_all is_short zs ≡ false
