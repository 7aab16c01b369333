-- Two numbers compared.
use Rattle.std.specs.Prelude.{◌≡◌, ◌≢◌, ℤ, int_lt, Bool, Option, Some, None}

-- two numbers differ, and this tells which is the smaller
pub record IsSmaller (x y : ℤ) (b : Bool) : Type 0 where
  pub other : x ≢ y
  pub is : b ≡ int_lt x y

-- the same, or none where they are the same
abbrev pub IsDecided : ℤ → ℤ → Option Bool → Type 0
IsDecided x y None = x ≡ y
IsDecided x y (Some b) = IsSmaller x y b
