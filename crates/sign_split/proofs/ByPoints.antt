-- The class of a form by points, from what the questions for them answered.
use Rattle.sign_split.proofs.Words.{◌≡◌, ap, refl, ℕ, ℤ, true, List, [], ◌∷◌, ◌++◌, Option, Some, None, is_some, IfSome, opposite, opposite_listed, all_fit, Work, Outcome, Done, Refused, Refusal, go_on, give, point, class_by_points, has_point, class_if_below}

some_point : (o : Outcome (Option (List ℤ))) (v : Work) → go_on o (λ p. give (is_some p)) ≡ Done true v → (p : List ℤ) × (o ≡ Done (Some p) v)
some_point (Done (Some p) u) v e = let same : u ≡ v = cc in (p, ap (λ (x : Work). Done (Some p) x) same)
some_point _ v e = absurd cc

refused_point : (o : Outcome (Option (List ℤ))) (f : Refusal) (v : Work) → go_on o (λ p. give (is_some p)) ≡ Refused f v → o ≡ Refused f v
refused_point (Done p u) f v e = absurd cc
refused_point (Refused g u) f v e = let same : g ≡ f = cc in let at : u ≡ v = cc in rw (same, at) refl

-- a refusal of the second question
pub refused_above : (w : ℕ) (K : List (List ℤ)) (c : List ℤ) (before v : Work) (o : Option Refusal) → IfSome o (λ f. has_point w (K ++ c ∷ []) before ≡ Refused f v)
    → IfSome o (λ f. class_if_below w K c before ≡ Refused f v)
refused_above w K c before v None told = told
refused_above w K c before v (Some f) told = rw (refused_point (point w (K ++ c ∷ []) before) f v told) refl

-- a point at which the form is below 0
pub goes_above : (w : ℕ) (K : List (List ℤ)) (c : List ℤ) (before between : Work) → all_fit (opposite_listed c) ≡ true
    → has_point w (K ++ opposite c ∷ []) before ≡ Done true between → class_by_points w K c before ≡ class_if_below w K c between
goes_above w K c before between fit first =
    let below = some_point (point w (K ++ opposite c ∷ []) before) between first in
    rw (fit, below.1) refl
