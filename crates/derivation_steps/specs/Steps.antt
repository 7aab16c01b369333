-- What a step derives.
use Rattle.std.specs.Prelude.{ℕ, ℤ, Bool, List, Ok, map}
use Rattle.pip_model.specs.Reading.{◌>>=◌, ◌>>◌}
use Rattle.pip_model.specs.Forms.{widen_to}
use Rattle.pip_model.specs.Certificate.{Step}
use Rattle.pip_model.specs.Check.{Spot, Checks, holds, sum_of, is_divisible, derived, after_step, ends_absurd}

-- forms, each over the first of so many places, read over all of them
abbrev pub read_over : ℕ → List (List ℤ) → List (List ℤ)
read_over w forms = map (widen_to w) forms

-- the form that a step derives, begun with this sum
abbrev pub derived_from : Spot → List (List ℤ) → List ℤ → Step → Checks (List ℤ)
derived_from at known start s = do
  sum ← sum_of at known start s.terms
  holds at (is_divisible s.divisor sum)
  Ok (derived s.divisor sum)

-- whether the form that a step derives is below 0 everywhere
abbrev pub absurd_after : Spot → ℕ → List (List ℤ) → Step → Checks Bool
absurd_after at w known s = do
  forms ← after_step at w known s
  Ok (ends_absurd forms)
