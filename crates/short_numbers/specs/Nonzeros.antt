-- The places at which numbers are not 0.
use Rattle.std.specs.Prelude.{◌≡◌, ℕ, zero, suc, ℤ, List, [], ◌∷◌, if◌then◌else◌, map, All}
use Rattle.pip_model.specs.Numbers.{is_zero}
use Rattle.short_numbers.specs.Short.{IsHalf}

-- these places, in order
abbrev pub nonzeros : List ℤ → List ℕ
nonzeros [] = []
nonzeros (z ∷ zs) = if is_zero z then map suc (nonzeros zs) else zero ∷ map suc (nonzeros zs)

-- the numbers have 32 bits, and they are not 0 at these places
pub record AreNonzeros (zs : List ℤ) (places : List ℕ) : Type 0 where
  pub list : places ≡ nonzeros zs
  pub half : All IsHalf zs
