-- The signs of a form's entries tell its class as those of the tightened form do.
use Rattle.sign_split.proofs.Words.{◌≡◌, refl, ap, sym, subst, ◌∙◌, ℕ, zero, suc, ◌<◌, ◌≤◌, ℤ, pos, negsuc, ◌+ℤ◌, ◌*ℤ◌, arith, Bool, true, false, ◌&&◌, not, List, [], ◌∷◌, ◌++◌, length, ints, get_or-map, length-map, if◌then◌else◌, AllByRecursion, list_all, is_nonneg, is_negative, is_positive, is_zero, floor_div, gcd_of, coefficients, constant, width, floor_divided, tighten, Work, Done, Plus, Minus, class, class_by_points, Multiple, floor-exact, rest_of, form-parts, gcd_of-natural, gcd_of-divides, and_assoc}

-- ---- numbers

same_sign : (e : ℕ) (q x : ℤ) (r : ℕ) → r < e → x ≡ pos e *ℤ q +ℤ pos r → is_nonneg q ≡ is_nonneg x
same_sign e (pos n) (negsuc k) r h is = absurd (omega (arith, ints))
same_sign e (negsuc n) (pos k) r h is = absurd (omega (arith, ints))
same_sign e _ _ r h is = refl

floor_nonneg : (x : ℤ) (e : ℕ) → 0 < e → is_nonneg (floor_div x (pos e)) ≡ is_nonneg x
floor_nonneg x e h = let r = rest_of x e h in same_sign e (floor_div x (pos e)) x r.rest r.below r.is

negative_as : (x y : ℤ) → is_nonneg x ≡ is_nonneg y → is_negative x ≡ is_negative y
negative_as (pos n) (negsuc k) e = cc
negative_as (negsuc n) (pos k) e = cc
negative_as _ _ e = refl

same_positive : (e : ℕ) (q x : ℤ) → 0 < e → x ≡ pos e *ℤ q → is_positive q ≡ is_positive x
same_positive e (pos zero) (pos zero) h is = refl
same_positive e (pos (suc n)) (pos (suc k)) h is = refl
same_positive e (negsuc n) (pos zero) h is = refl
same_positive e (negsuc n) (negsuc k) h is = refl
same_positive e _ _ h is = absurd (omega (arith, ints))

-- ---- lists

abbrev pub not_positive : ℤ → Bool
not_positive z = not (is_positive z)

divided_nonneg : (e : ℕ) (cs : List ℤ) → 0 < e → list_all is_nonneg (floor_divided (pos e) cs) ≡ list_all is_nonneg cs
divided_nonneg e [] h = refl
divided_nonneg e (c ∷ cs) h = rw (floor_nonneg c e h, divided_nonneg e cs h) refl

last_below : (z : ℤ) → ((not_positive z && true) && is_negative z) ≡ is_negative z
last_below (pos zero) = refl
last_below (pos (suc n)) = refl
last_below (negsuc n) = refl

divided_below : (e : ℕ) (cs : List ℤ) (k : ℤ) → 0 < e → AllByRecursion (Multiple (pos e)) cs
    → (list_all not_positive (floor_divided (pos e) (cs ++ k ∷ [])) && is_negative (floor_div k (pos e))) ≡ (list_all not_positive (cs ++ k ∷ []) && is_negative k)
divided_below e [] k h all = last_below (floor_div k (pos e)) ∙ negative_as (floor_div k (pos e)) k (floor_nonneg k e h) ∙ sym (last_below k)
divided_below e (c ∷ cs) k h all =
    let one : not_positive (floor_div c (pos e)) ≡ not_positive c = ap not (same_positive e (floor_div c (pos e)) c h (floor-exact c e h all.0)) in
    and_assoc (not_positive (floor_div c (pos e))) (list_all not_positive (floor_divided (pos e) (cs ++ k ∷ []))) (is_negative (floor_div k (pos e)))
    ∙ ap (λ b. b && (list_all not_positive (floor_divided (pos e) (cs ++ k ∷ [])) && is_negative (floor_div k (pos e)))) one
    ∙ ap (λ b. not_positive c && b) (divided_below e cs k h all.1)
    ∙ sym (and_assoc (not_positive c) (list_all not_positive (cs ++ k ∷ [])) (is_negative k))

-- ---- the tightened form

abbrev pub is_below : List ℤ → Bool
is_below c = list_all not_positive c && is_negative (constant c)

constant_divided : (d : ℤ) (c : List ℤ) → 1 ≤ length c → constant (floor_divided d c) ≡ floor_div (constant c) d
constant_divided d c h =
    let same : width (floor_divided d c) ≡ width c = simp length-map refl in
    rw same (get_or-map (λ x. floor_div x d) c (width c) (pos 0) (pos 0) (omega arith))

below_by : (e : ℕ) (c : List ℤ) → 1 ≤ length c → 0 < e → AllByRecursion (Multiple (pos e)) (coefficients c) → is_below (floor_divided (pos e) c) ≡ is_below c
below_by e c some h all =
    let parts = form-parts (width c) c (omega arith) in
    let same = divided_below e (coefficients c) (constant c) h all in
    ap (λ k. list_all not_positive (floor_divided (pos e) c) && is_negative k) (constant_divided (pos e) c some)
    ∙ subst (λ (x : List ℤ). (list_all not_positive (floor_divided (pos e) x) && is_negative (floor_div (constant c) (pos e))) ≡ (list_all not_positive x && is_negative (constant c))) (sym parts.0) same

nonneg_by : (g : ℤ) (e : ℕ) (c : List ℤ) → g ≡ pos e → list_all is_nonneg (if is_zero g then c else floor_divided g c) ≡ list_all is_nonneg c
nonneg_by (pos zero) e c is = refl
nonneg_by (pos (suc m)) e c is = divided_nonneg (suc m) c (omega arith)
nonneg_by (negsuc m) e c is = cc

signs_by : (g : ℤ) (e : ℕ) (c : List ℤ) → 1 ≤ length c → g ≡ pos e → AllByRecursion (Multiple g) (coefficients c) → is_below (if is_zero g then c else floor_divided g c) ≡ is_below c
signs_by (pos zero) e c some is all = refl
signs_by (pos (suc m)) e c some is all = below_by (suc m) c some (omega arith) all
signs_by (negsuc m) e c some is all = cc

tight_nonneg : (c : List ℤ) → list_all is_nonneg (tighten c) ≡ list_all is_nonneg c
tight_nonneg c = let g = gcd_of-natural (coefficients c) in nonneg_by (gcd_of (coefficients c)) g.0 c g.1

tight_below : (c : List ℤ) → 1 ≤ length c → is_below (tighten c) ≡ is_below c
tight_below c some = let g = gcd_of-natural (coefficients c) in signs_by (gcd_of (coefficients c)) g.0 c some g.1 (gcd_of-divides (coefficients c))

-- ---- the class

module _ (K : List (List ℤ)) (w : ℕ) (t : List ℤ) (v : Work) where
  pub class_plus : list_all is_nonneg t ≡ true → class K w t v ≡ Done Plus v
  class_plus e = rw (tight_nonneg t ∙ e) refl

  module _ (some : 1 ≤ length t) (not_plus : list_all is_nonneg t ≡ false) where
    pub class_minus : is_below t ≡ true → class K w t v ≡ Done Minus v
    class_minus e = rw (tight_nonneg t ∙ not_plus, tight_below t some ∙ e) refl

    pub class_points : is_below t ≡ false → class K w t v ≡ class_by_points w K (tighten t) v
    class_points e = rw (tight_nonneg t ∙ not_plus, tight_below t some ∙ e) refl
