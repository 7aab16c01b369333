-- Numbers that are divided by one that divides them all.
use Rattle.std.specs.Prelude.{ℕ, ℤ, pos, ◌≤ℤ◌, List, ◌++◌, take, drop}
use Rattle.pip_model.specs.Forms.{scale}
use Rattle.short_numbers.specs.Short.{IsHalf}

-- d lies from 1 to 2^31 - 1
pub record IsHalfDivisor (d : ℤ) : Type 0 where
  pub positive : pos 1 ≤ℤ d
  pub half : IsHalf d

-- the numbers, those in front of place k multiplied by d
abbrev pub scaled_front : ℤ → List ℤ → ℕ → List ℤ
scaled_front d zs k = scale d (take k zs) ++ drop k zs
