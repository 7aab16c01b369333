-- The common denominator, fraction by fraction, and the numerators over it.
use Rattle.quast_text.proofs.Words.{◌≡◌, ◌∙◌, refl, ap, sym, ℕ, ◌+◌, ◌<◌, ◌≤◌, ℤ, pos, Bool, ◌&&◌, IsTrue, IsFalse, List, [], ◌∷◌, ◌++◌, length, take, drop, get_or, map, drop_more, take_more, take_all, map-append, All, Fits, fits, lcm, all_fit, common_denominators, last_of, component_of, Wide, numerator_of}
use Rattle.std.specs.Prelude.{Err}
use Rattle.std.proofs.Math.Bool.{and-false}
use Rattle.quast.proofs.Conditions.{all_fit_from}
use Rattle.std.proofs.lemmas.List.Folds.{list_all-map, list_all_at}

-- one fraction more
common_step : (d : ℤ) (fs : List (ℤ × ℤ)) (i : ℕ) (f : ℤ × ℤ) → i < length fs → f ≡ get_or fs i f → common_denominators d (drop i fs) ≡ lcm d f.1 ∷ common_denominators (lcm d f.1) (drop (i + 1) fs)
common_step d fs i f h is =
    ap (common_denominators d) (drop_more fs i f h) ∙ ap (λ (g : ℤ × ℤ). lcm d g.1 ∷ common_denominators (lcm d g.1) (drop (i + 1) fs)) (sym is)

pub fit_step : (d e : ℤ) (fs : List (ℤ × ℤ)) (i : ℕ) (f : ℤ × ℤ) (whole : Bool) → all_fit (common_denominators d (drop i fs)) ≡ whole → i < length fs → f ≡ get_or fs i f → e ≡ lcm d f.1 → IsTrue (fits e) → all_fit (common_denominators e (drop (i + 1) fs)) ≡ whole
fit_step d e fs i f whole so_far h is made fit =
    let step = ap all_fit (common_step d fs i f h is) in
    let next : all_fit (lcm d f.1 ∷ common_denominators (lcm d f.1) (drop (i + 1) fs)) ≡ whole = sym step ∙ so_far in
    let seen : (fits e && all_fit (common_denominators e (drop (i + 1) fs))) ≡ whole = rw made next in
    rw fit at seen

pub last_step : (d e : ℤ) (fs : List (ℤ × ℤ)) (i : ℕ) (f : ℤ × ℤ) (whole : ℤ) → last_of d (common_denominators d (drop i fs)) ≡ whole → i < length fs → f ≡ get_or fs i f → e ≡ lcm d f.1 → last_of e (common_denominators e (drop (i + 1) fs)) ≡ whole
last_step d e fs i f whole so_far h is made = rw made (sym (ap (last_of d) (common_step d fs i f h is)) ∙ so_far)

-- ---- numerators

pub numerator_refused : (d : ℤ) (fs : List (ℤ × ℤ)) (i : ℕ) (f : ℤ × ℤ) → i < length fs → f ≡ get_or fs i f → IsFalse (fits (numerator_of d f)) → IsFalse (all_fit (map (numerator_of d) fs))
numerator_refused d fs i f h is wide =
    list_all-map fits (numerator_of d) fs ∙ list_all_at (λ (g : ℤ × ℤ). fits (numerator_of d g)) fs i f h (rw (← is) wide)

pub numerators_step : (d n : ℤ) (fs : List (ℤ × ℤ)) (i : ℕ) (f : ℤ × ℤ) (found : List ℤ) → i < length fs → f ≡ get_or fs i f → found ≡ map (numerator_of d) (take i fs) → n ≡ numerator_of d f → found ++ n ∷ [] ≡ map (numerator_of d) (take (i + 1) fs)
numerators_step d n fs i f found h is so_far made =
    ap (λ (xs : List ℤ). xs ++ n ∷ []) so_far
    ∙ ap (λ (z : ℤ). map (numerator_of d) (take i fs) ++ z ∷ []) (made ∙ ap (numerator_of d) is)
    ∙ sym (map-append (numerator_of d) (take i fs) (get_or fs i f ∷ []))
    ∙ ap (map (numerator_of d)) (sym (take_more fs i f h))

pub numerators_end : (d : ℤ) (fs : List (ℤ × ℤ)) (i : ℕ) (found : List ℤ) → length fs ≤ i → found ≡ map (numerator_of d) (take i fs) → found ≡ map (numerator_of d) fs
numerators_end d fs i found h so_far = so_far ∙ ap (map (numerator_of d)) (take_all i fs h)

pub numerators_fit : (d : ℤ) (fs : List (ℤ × ℤ)) (i : ℕ) (found : List ℤ) → length fs ≤ i → found ≡ map (numerator_of d) (take i fs) → All Fits found → IsTrue (all_fit (map (numerator_of d) fs))
numerators_fit d fs i found h so_far all = rw (← numerators_end d fs i found h so_far) (all_fit_from found all)

-- a numerator that does not fit
pub component_wide : (start : ℕ) (fs : List (ℤ × ℤ)) (d : ℤ) → d ≡ last_of (pos 1) (common_denominators (pos 1) fs) → IsFalse (all_fit (map (numerator_of d) fs)) → component_of start fs ≡ Err (Wide start)
component_wide start fs d is wide = rw ((rw is at wide), and-false (all_fit (common_denominators (pos 1) fs))) refl
