-- The quotients of a path.
use Rattle.std.specs.Prelude.{◌≡◌, ℕ, ◌+◌, ℤ, List, [], ◌∷◌, length, take}
use Rattle.pip_model.specs.Certificate.{Refutation}
use Rattle.pip_model.specs.Made.{PathQuotient, quotient_step}

-- each quotient's form is over the n parameters and the quotients before it
abbrev pub ReadsPlaces : ℕ → List PathQuotient → Type 0
ReadsPlaces n [] = Unit {0}
ReadsPlaces n (k ∷ ks) = (length k.quotient.form ≡ n + 1) × ReadsPlaces (n + 1) ks

-- a step for each, of which the first is over the first n places, the next over one more
abbrev pub steps_from : ℕ → ℕ → List ℤ → List PathQuotient → Refutation
steps_from front n places [] = []
steps_from front n places (k ∷ ks) = quotient_step front (take n places) k ∷ steps_from front (n + 1) places ks
