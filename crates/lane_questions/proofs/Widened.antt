-- Forms in lanes are the forms read over n places.
use Rattle.lane_questions.proofs.Words.{◌≡◌, ◌∙◌, refl, ap, sym, subst, ℕ, zero, suc, ◌+◌, ◌-◌, ◌^◌, ◌<◌, ◌≤◌, ℤ, pos, arith, List, [], ◌∷◌, ◌++◌, length, map, take, replicate, take-replicate, width, coefficients, constant, widen_to, IsContext, IsNarrow, form-parts, lanes_of, all_lanes, AreWithin, forms_of, AreModest}
use Rattle.lane_run.specs.Laned.{numbers_of}
use Rattle.lane_run.proofs.Modest.{are_modest}

-- ---- numbers

front_zeros : (xs : List ℤ) (n k : ℕ) → length xs ≤ n → n ≤ length xs + k → take n (xs ++ replicate k (pos 0)) ≡ xs ++ replicate (n - length xs) (pos 0)
front_zeros [] n k h le = let e : n ≡ n - 0 = omega arith in take-replicate n k (pos 0) (omega (arith, le)) ∙ ap (λ (m : ℕ). replicate m (pos 0)) e
front_zeros (x ∷ xs) zero k h le = absurd (omega (arith, h))
front_zeros (x ∷ xs) (suc n) k h le =
    let e : suc n - suc (length xs) ≡ n - length xs = omega arith in
    ap (λ (zs : List ℤ). x ∷ zs) (front_zeros xs n k (omega (arith, h)) (omega (arith, le))) ∙ ap (λ (m : ℕ). x ∷ (xs ++ replicate m (pos 0))) (sym e)

coefficients_long : (n : ℕ) (c : List ℤ) → IsNarrow n c → length (coefficients c) ≡ width c
coefficients_long n c h = let some = h.some in (form-parts (width c) c (omega (arith, some))).1

pub widened : (n : ℕ) (c : List ℤ) → n ≤ 7 → IsNarrow n c → numbers_of n (lanes_of c) ≡ widen_to n c
widened n c few h =
    let long = coefficients_long n c h in
    let most = h.most in
    ap (λ (zs : List ℤ). zs ++ constant c ∷ [])
    (front_zeros (coefficients c) n (7 - width c) (omega (arith, long, most)) (omega (arith, long, most, few))
    ∙ ap (λ (m : ℕ). coefficients c ++ replicate (n - m) (pos 0)) long)

pub all_widened : (n : ℕ) (K : List (List ℤ)) → n ≤ 7 → IsContext n K → forms_of n (all_lanes K) ≡ map (widen_to n) K
all_widened n [] few h = refl
all_widened n (c ∷ K) few h = rw (widened n c few h.0, all_widened n K few h.1) refl

pub all_modest : (n : ℕ) (K : List (List ℤ)) (most : ℕ) → n ≤ 7 → IsContext n K → AreWithin most (all_lanes K) → most < 2 ^ 31 → AreModest n (map (widen_to n) K)
all_modest n K most few h within lt = subst (AreModest n) (all_widened n K few h) (are_modest n most (all_lanes K) few lt within)
