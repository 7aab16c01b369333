-- Sums of a step's terms, and forms, whose last coefficients may be left out where they are 0.
use Rattle.std.specs.Prelude.{ℕ, ◌-◌, ◌≤◌, ◌<◌, ℤ, pos, List, ◌∷◌, [], ◌++◌, length, replicate, All, IsFalse}
use Rattle.pip_model.specs.Numbers.{is_zero}
use Rattle.pip_model.specs.Forms.{entry}
use Rattle.affine_forms.specs.Checks.{Fits}

-- over w places: these coefficients, 0 at the places behind them, and this constant
abbrev pub spread : ℕ → List ℤ → ℤ → List ℤ
spread w cs t = cs ++ replicate (w - length cs) (pos 0) ++ t ∷ []

-- a sum over so many places, whose coefficients behind these are 0
pub record PartSum : Type 0 where
  pub width : ℕ
  pub coefficients : List ℤ
  pub constant : ℤ

-- the sum as a form over all places
abbrev pub total : PartSum → List ℤ
total s = spread s.width s.coefficients s.constant

-- no more coefficients than places, and all numbers fit
pub record IsPartSum (s : PartSum) : Type 0 where
  pub within : length s.coefficients ≤ s.width
  pub fits : All Fits s.coefficients
  pub constant : Fits s.constant

-- the last coefficient, where there is one, is not 0
abbrev pub EndsAtItsLast : List ℤ → Type 0
EndsAtItsLast c = 1 < length c → IsFalse (is_zero (entry c (length c - 2)))
