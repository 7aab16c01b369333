-- Numbers of 64 bits, and of 32.
use Rattle.std.specs.Prelude.{◌^◌, ◌<◌, ℤ, pos, ◌≤ℤ◌, unsigned_abs, Bool, nat_lt}

-- z lies from -(2^63 - 1) to 2^63 - 1
abbrev pub is_short : ℤ → Bool
is_short z = nat_lt (unsigned_abs z) (2 ^ 63)

abbrev pub IsShort : ℤ → Type 0
IsShort z = unsigned_abs z < 2 ^ 63

-- z lies from -(2^31 - 1) to 2^31 - 1
abbrev pub IsHalf : ℤ → Type 0
IsHalf z = unsigned_abs z < 2 ^ 31

-- d lies from 1 to 2^63 - 1
pub record IsShortDivisor (d : ℤ) : Type 0 where
  pub positive : pos 1 ≤ℤ d
  pub short : IsShort d

-- two numbers of 64 bits, and of 32
pub record AreShort (a b : ℤ) : Type 0 where
  pub first : IsShort a
  pub second : IsShort b

pub record AreHalf (a b : ℤ) : Type 0 where
  pub first : IsHalf a
  pub second : IsHalf b
