-- When two quotients are one key.
use Rattle.std.specs.Prelude.{ℤ, pos, Bool, List, [], ◌∷◌, if◌then◌else◌}
use Rattle.std.specs.Cmp.Lexicographic.{pointwise}
use Rattle.std.specs.Ordering.{int_eq, on, eq_of_both}
use Rattle.pip_model.specs.Forms.{coefficients, constant}
use Rattle.pip_model.specs.Cuts.{Quotient}

-- a number put before others that are trimmed
abbrev pub trimmed_with : ℤ → List ℤ → List ℤ
trimmed_with z [] = if int_eq z (pos 0) then [] else z ∷ []
trimmed_with z (y ∷ ys) = z ∷ y ∷ ys

-- the numbers up to the last that is not 0
abbrev pub trimmed : List ℤ → List ℤ
trimmed [] = []
trimmed (z ∷ zs) = trimmed_with z (trimmed zs)

-- whether two quotients are one key
abbrev pub is_same_key : Quotient → Quotient → Bool
is_same_key =
    eq_of_both (on (λ k. trimmed (coefficients k.form)) (pointwise int_eq))
    (eq_of_both (on (λ k. constant k.form) int_eq) (on (λ k. k.den) int_eq))
