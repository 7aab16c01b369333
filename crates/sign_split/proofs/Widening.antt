-- A form that is read over more places has the class that it has.
use Rattle.sign_split.proofs.Words.{◌≡◌, refl, ap, sym, subst, ◌∙◌, ℕ, zero, suc, ◌+◌, ◌-◌, ◌≤◌, ℤ, pos, negsuc, ◌-ℤ◌, neg_ℤ, arith, Bool, true, false, ◌&&◌, Option, Some, None, List, [], ◌∷◌, ◌++◌, length, map, replicate, length-append, if◌then◌else◌, list_all, ints, map-append, is_nonneg, is_zero, floor_div, gcd_of, coefficients, constant, width, floor_divided, tighten, negate, opposite, widen_to, opposite_listed, Work, Outcome, Counted, Done, Refused, Class, Plus, Minus, go_on, ◌>>=◌, give, listed, root, run_from, point_setting, numbers_of, point, class, class_above, class_below, class_by_points, form-parts, gcd_of-natural, length_map, length_tighten, coefficients-end, constant-end, length-widen_to, widened_class, list_all-append}
use Rattle.pip_model.specs.Run.{class_of}
use Rattle.affine_forms.proofs.Units.{widen_same}
use Rattle.context_points.proofs.OneFormMore.{point_some}
use Rattle.sign_split.proofs.Opposites.{form_of, opposite_form, opposite_length}
use Rattle.sign_split.proofs.TightSigns.{not_positive, is_below}

abbrev zeros : ℕ → List ℤ
zeros n = replicate n (pos 0)

-- ---- zeros

gcd_zeros : (cs : List ℤ) (n : ℕ) → gcd_of (cs ++ zeros n) ≡ gcd_of cs
gcd_zeros [] zero = refl
gcd_zeros [] (suc n) = rw (gcd_zeros [] n) refl
gcd_zeros (c ∷ cs) n = rw (gcd_zeros cs n) refl

divided_zeros : (m n : ℕ) → floor_divided (pos (suc m)) (zeros n) ≡ zeros n
divided_zeros m zero = refl
divided_zeros m (suc n) =
    let none : floor_div (pos 0) (pos (suc m)) ≡ pos 0 = omega (arith, ints) in
    rw (none, divided_zeros m n) refl

negate_zeros : (n : ℕ) → negate (zeros n) ≡ zeros n
negate_zeros zero = refl
negate_zeros (suc n) = rw (negate_zeros n) refl

all_zeros : (p : ℤ → Bool) (n : ℕ) → p (pos 0) ≡ true → list_all p (zeros n) ≡ true
all_zeros p zero e = refl
all_zeros p (suc n) e = rw (e, all_zeros p n e) refl

and_true : (b c : Bool) → ((b && true) && c) ≡ (b && c)
and_true true c = refl
and_true false c = refl

all_more : (p : ℤ → Bool) (cs : List ℤ) (n : ℕ) (k : ℤ) → p (pos 0) ≡ true → list_all p (form_of (cs ++ zeros n) k) ≡ list_all p (form_of cs k)
all_more p cs n k e =
    list_all-append p (cs ++ zeros n) (k ∷ [])
    ∙ ap (λ b. b && list_all p (k ∷ [])) (list_all-append p cs (zeros n) ∙ ap (λ b. list_all p cs && b) (all_zeros p n e))
    ∙ and_true (list_all p cs) (list_all p (k ∷ []))
    ∙ sym (list_all-append p cs (k ∷ []))

-- ---- forms by their parts

widen_form : (w : ℕ) (cs : List ℤ) (k : ℤ) → widen_to w (form_of cs k) ≡ form_of (cs ++ zeros (w - length cs)) k
widen_form w cs k =
    let c = form_of cs k in
    ap (λ (xs : List ℤ). form_of (xs ++ zeros (w - width c)) (constant c)) (coefficients-end cs k)
    ∙ ap (λ (z : ℤ). form_of (cs ++ zeros (w - width c)) z) (constant-end cs k)
    ∙ ap (λ l. form_of (cs ++ zeros (w - l)) k) (simp length-append (omega arith))

-- tightened, by the divisor
tight_by : (g : ℤ) (e w : ℕ) (cs : List ℤ) (k : ℤ) → g ≡ pos e
    → (if is_zero g then form_of (cs ++ zeros (w - length cs)) k else floor_divided g (form_of (cs ++ zeros (w - length cs)) k))
    ≡ widen_to w (if is_zero g then form_of cs k else floor_divided g (form_of cs k))
tight_by (pos zero) e w cs k is = sym (widen_form w cs k)
tight_by (pos (suc m)) e w cs k is =
    let d = pos (suc m) in
    let over : ℤ → ℤ = λ x. floor_div x d in
    map-append over (cs ++ zeros _) (k ∷ [])
    ∙ ap (λ (xs : List ℤ). form_of xs (floor_div k d)) (map-append over cs (zeros _) ∙ ap (λ (xs : List ℤ). floor_divided d cs ++ xs) (divided_zeros m _))
    ∙ sym (
    ap (widen_to w) (map-append over cs (k ∷ []))
    ∙ widen_form w (floor_divided d cs) (floor_div k d)
    ∙ ap (λ l. form_of (floor_divided d cs ++ zeros (w - l)) (floor_div k d)) (length_map over cs))
tight_by (negsuc m) e w cs k is = cc

tight_widened : (w : ℕ) (cs : List ℤ) (k : ℤ) → tighten (widen_to w (form_of cs k)) ≡ widen_to w (tighten (form_of cs k))
tight_widened w cs k =
    let g = gcd_of-natural cs in
    ap tighten (widen_form w cs k)
    ∙ rw (coefficients-end (cs ++ zeros (w - length cs)) k, coefficients-end cs k, gcd_zeros cs (w - length cs)) (tight_by (gcd_of cs) g.0 w cs k g.1)

opposite_widened : (w : ℕ) (cs : List ℤ) (k : ℤ) → opposite (widen_to w (form_of cs k)) ≡ widen_to w (opposite (form_of cs k))
opposite_widened w cs k =
    let less = neg_ℤ k -ℤ pos 1 in
    ap opposite (widen_form w cs k)
    ∙ opposite_form (cs ++ zeros _) k
    ∙ ap (λ (xs : List ℤ). form_of xs less) (map-append neg_ℤ cs (zeros _) ∙ ap (λ (xs : List ℤ). negate cs ++ xs) (negate_zeros _))
    ∙ sym (
    ap (widen_to w) (opposite_form cs k)
    ∙ widen_form w (negate cs) less
    ∙ ap (λ l. form_of (negate cs ++ zeros (w - l)) less) (length_map neg_ℤ cs))

-- ---- the same of a form

module _ (w : ℕ) (c : List ℤ) (some : 1 ≤ length c) where
  parts : c ≡ form_of (coefficients c) (constant c)
  parts = (form-parts (width c) c (omega arith)).0

  tighten_widened : tighten (widen_to w c) ≡ widen_to w (tighten c)
  tighten_widened = subst (λ (x : List ℤ). tighten (widen_to w x) ≡ widen_to w (tighten x)) (sym parts) (tight_widened w (coefficients c) (constant c))

  opposite_wider : opposite (widen_to w c) ≡ widen_to w (opposite c)
  opposite_wider = subst (λ (x : List ℤ). opposite (widen_to w x) ≡ widen_to w (opposite x)) (sym parts) (opposite_widened w (coefficients c) (constant c))

  constant_widened : constant (widen_to w c) ≡ constant c
  constant_widened = constant-end (coefficients c ++ zeros (w - width c)) (constant c)

  all_widened : (p : ℤ → Bool) → p (pos 0) ≡ true → list_all p (widen_to w c) ≡ list_all p c
  all_widened p e = all_more p (coefficients c) (w - width c) (constant c) e ∙ ap (list_all p) (sym parts)

  below_widened : is_below (widen_to w c) ≡ is_below c
  below_widened = rw (all_widened not_positive refl, constant_widened) refl

-- ---- points

point_widened : (w : ℕ) (K : List (List ℤ)) (c : List ℤ) → 1 ≤ length c → length c ≤ w + 1 → point w (K ++ widen_to w c ∷ []) ≡ point w (K ++ c ∷ [])
point_widened w K c some narrow =
    let twice : widen_to w (widen_to w c) ≡ widen_to w c = widen_same w (widen_to w c) (omega (arith, length-widen_to w c some (omega (arith, narrow)))) in
    let same : map (widen_to w) (K ++ widen_to w c ∷ []) ≡ map (widen_to w) (K ++ c ∷ []) =
    map-append (widen_to w) K (widen_to w c ∷ [])
    ∙ ap (λ (x : List ℤ). map (widen_to w) K ++ x ∷ []) twice
    ∙ sym (map-append (widen_to w) K (c ∷ [])) in
    point_some w K (widen_to w c)
    ∙ ap (λ (forms : List (List ℤ)). run_from (point_setting w) (root w 0 forms []) >>= λ t. give (numbers_of t)) same
    ∙ sym (point_some w K c)

-- ---- classes

module _ (w : ℕ) (K : List (List ℤ)) (c : List ℤ) (some : 1 ≤ length c) (narrow : length c ≤ w + 1) where
  abbrev wide : List ℤ
  wide = widen_to w c

  abbrev then_wide : Outcome Class → Outcome Class
  then_wide o = go_on o (λ k. give (widened_class w k))

  above_at : (o : Option (List ℤ)) (v : Work) → class_above w K wide o v ≡ then_wide (class_above w K c o v)
  above_at None v = refl
  above_at (Some p) v = refl

  above_on : (o : Outcome (Option (List ℤ))) → go_on o (λ above. class_above w K wide above) ≡ then_wide (go_on o (λ above. class_above w K c above))
  above_on (Done o v) = above_at o v
  above_on (Refused e v) = refl

  below_at : (o : Option (List ℤ)) (v : Work) → class_below w K wide o v ≡ then_wide (class_below w K c o v)
  below_at None v = refl
  below_at (Some p) v = ap (λ (part : Counted (Option (List ℤ))). go_on (part v) (λ above. class_above w K wide above)) (point_widened w K c some narrow) ∙ above_on (point w (K ++ c ∷ []) v)

  below_on : (o : Outcome (Option (List ℤ))) → go_on o (λ below. class_below w K wide below) ≡ then_wide (go_on o (λ below. class_below w K c below))
  below_on (Done o v) = below_at o v
  below_on (Refused e v) = refl

  opposite_point : point w (K ++ opposite wide ∷ []) ≡ point w (K ++ opposite c ∷ [])
  opposite_point =
      let n = opposite_length c in
      ap (λ (x : List ℤ). point w (K ++ x ∷ [])) (opposite_wider w c some) ∙ point_widened w K (opposite c) (omega (arith, n, some)) (omega (arith, n, narrow))

  points_on : (o : Outcome (Unit {0})) → go_on o (λ done. point w (K ++ opposite wide ∷ []) >>= λ below. class_below w K wide below)
      ≡ then_wide (go_on o (λ done. point w (K ++ opposite c ∷ []) >>= λ below. class_below w K c below))
  points_on (Done done v) = ap (λ (part : Counted (Option (List ℤ))). go_on (part v) (λ below. class_below w K wide below)) opposite_point ∙ below_on (point w (K ++ opposite c ∷ []) v)
  points_on (Refused e v) = refl

  by_points : (v : Work) → class_by_points w K wide v ≡ then_wide (class_by_points w K c v)
  by_points v =
      ap (λ (z : ℤ). go_on (listed ((neg_ℤ z -ℤ pos 1) ∷ []) v) (λ done. point w (K ++ opposite wide ∷ []) >>= λ below. class_below w K wide below)) (constant_widened w c some)
      ∙ points_on (listed (opposite_listed c) v)

  chosen : (a b : Bool) (v : Work) → (if a then give Plus else (if b then give Minus else class_by_points w K wide)) v
      ≡ then_wide ((if a then give Plus else (if b then give Minus else class_by_points w K c)) v)
  chosen false false v = by_points v
  chosen _ _ v = refl

  of_widened : (v : Work) → class_of w K wide v ≡ then_wide (class_of w K c v)
  of_widened v = rw (all_widened w c some is_nonneg refl, below_widened w c some) (chosen (list_all is_nonneg c) (is_below c) v)

-- the class of a form is that of the form read over w places
pub class_widened : (w : ℕ) (K : List (List ℤ)) (t : List ℤ) (v : Work) → 1 ≤ length t → length t ≤ w + 1
    → class K w (widen_to w t) v ≡ go_on (class K w t v) (λ k. give (widened_class w k))
class_widened w K t v some narrow =
    let n = length_tighten t in
    ap (λ (x : List ℤ). class_of w K x v) (tighten_widened w t some) ∙ of_widened w K (tighten t) (omega (arith, n, some)) (omega (arith, n, narrow)) v
