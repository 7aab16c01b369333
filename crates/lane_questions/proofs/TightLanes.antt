-- A form in lanes tightened, and put back.
use Rattle.lane_questions.proofs.Words.{◌≡◌, ◌∙◌, refl, ap, sym, ℕ, zero, suc, ◌+◌, ◌-◌, ◌%◌, ◌^◌, ◌<◌, ◌≤◌, ℤ, pos, negsuc, ◌≤ℤ◌, ◌<ℤ◌, unsigned_abs, arith, List, [], ◌∷◌, ◌++◌, length, take, drop, replicate, get_or, append_assoc, length-append, length-drop, ints, get_or-map, get_or-drop, take_more, length-map, map-append, take-map, lt-ltb, All-append, All-cons, All-from_recursion, All-nil, All-take, div-le_self, AllByRecursion, take-append_seam, floor_div, euclid, gcd, gcd_of, entry, constant, coefficients, width, floor_divided, tighten, form-parts, euclid_below, gcd_one, AreLanes, lanes_of, form_in}
use Rattle.affine_forms.specs.Checks.{Fits}
use Rattle.affine_forms.specs.Forms.{IsForm}
use Rattle.affine_forms.proofs.Divisors.{gcd_step}
use Rattle.affine_forms.proofs.Tightening.{tighten_divided, tighten_kept}
use Rattle.lanes.specs.Narrow.{IsNarrow}

-- ---- numbers

pub gcd_narrow : (a b : ℤ) → IsNarrow a → IsNarrow b → IsNarrow (gcd a b)
gcd_narrow a b h k = euclid_below (unsigned_abs a) (unsigned_abs b) (2 ^ 31) h k

smaller : (a d : ℤ) → pos 1 ≤ℤ d → unsigned_abs (floor_div a d) ≤ unsigned_abs a
smaller (pos n) (pos (suc d)) h = div-le_self n (suc d)
smaller (negsuc n) (pos (suc d)) h = let small = div-le_self n (suc d) in omega (arith, small)
smaller a _ h = absurd (omega (arith, ints))

pub quotient_narrow : (a d : ℤ) → pos 1 ≤ℤ d → IsNarrow a → IsNarrow (floor_div a d)
quotient_narrow a d h k = let small = smaller a d h in omega (arith, small, k)

none_divided : (d : ℤ) → pos 1 ≤ℤ d → floor_div (pos 0) d ≡ pos 0
none_divided (pos n) h = omega (arith, ints)
none_divided (negsuc n) h = absurd (omega (arith, ints))

-- ---- the greatest common divisor

zeros_common : (n : ℕ) → gcd_of (replicate n (pos 0)) ≡ pos 0
zeros_common zero = refl
zeros_common (suc n) = ap (gcd (pos 0)) (zeros_common n)

padded_common : (cs : List ℤ) (n : ℕ) → gcd_of (cs ++ replicate n (pos 0)) ≡ gcd_of cs
padded_common [] n = zeros_common n
padded_common (c ∷ cs) n = ap (gcd c) (padded_common cs n)

-- that of a form's coefficients is that of its lanes behind the first
pub common_in_lanes : (c : List ℤ) → gcd_of (drop 1 (lanes_of c)) ≡ gcd_of (coefficients c)
common_in_lanes c = padded_common (coefficients c) (7 - width c)

-- one more lane is taken
pub common_more : (lanes : List ℤ) (k : ℕ) (found new : ℤ) → AreLanes lanes → k < 8 → new ≡ gcd found (entry lanes k) → gcd new (gcd_of (drop (k + 1) lanes)) ≡ gcd found (gcd_of (drop k lanes))
common_more lanes k found new h few e =
    ap (λ (g : ℤ). gcd g (gcd_of (drop (k + 1) lanes))) e ∙ gcd_step found lanes k (omega (arith, h.long, few))

-- 1 has no other divisor
last_one : (z : ℤ) → gcd z (pos 1) ≡ pos 1
last_one z = let none : unsigned_abs z % 1 ≡ 0 = omega arith in ap (λ (r : ℕ). pos (euclid 1 1 r)) none

-- a number of size 1 divides all
unit_common : (zs : List ℤ) (k : ℕ) → k < length zs → unsigned_abs (entry zs k) ≡ 1 → gcd_of zs ≡ pos 1
unit_common [] k h one = absurd (omega arith)
unit_common (z ∷ zs) zero h one = ap (λ (m : ℕ). pos (euclid (unsigned_abs (gcd_of zs) + 1) m (unsigned_abs (gcd_of zs)))) one ∙ gcd_one (gcd_of zs)
unit_common (z ∷ zs) (suc k) h one = ap (gcd z) (unit_common zs k (omega (arith, h)) one) ∙ last_one z

pub unit_behind : (lanes : List ℤ) (k : ℕ) → AreLanes lanes → 1 ≤ k → k < 8 → unsigned_abs (entry lanes k) ≡ 1 → gcd_of (drop 1 lanes) ≡ pos 1
unit_behind [] k h some few one = absurd (omega (arith, h.long))
unit_behind (z ∷ zs) zero h some few one = absurd (omega (arith, some))
unit_behind (z ∷ zs) (suc k) h some few one = unit_common zs k (omega (arith, h.long, few)) one

-- ---- division

zeros_divided : (d : ℤ) (n : ℕ) → pos 1 ≤ℤ d → floor_divided d (replicate n (pos 0)) ≡ replicate n (pos 0)
zeros_divided d zero h = refl
zeros_divided d (suc n) h = rw (none_divided d h, zeros_divided d n h) refl

constant_divided : (d : ℤ) (c : List ℤ) → 0 < length c → constant (floor_divided d c) ≡ floor_div (constant c) d
constant_divided d c h =
    let same : width (floor_divided d c) ≡ width c = simp length-map refl in
    rw same (get_or-map (λ x. floor_div x d) c (width c) (pos 0) (pos 0) (omega (arith, h)))

-- the lanes of a form that is divided
pub lanes_divided : (d : ℤ) (c : List ℤ) → pos 1 ≤ℤ d → 0 < length c → floor_divided d (lanes_of c) ≡ lanes_of (floor_divided d c)
lanes_divided d c h some =
    let same : width (floor_divided d c) ≡ width c = simp length-map refl in
    let front : coefficients (floor_divided d c) ≡ floor_divided d (coefficients c) = rw same (take-map (λ x. floor_div x d) (width c) c) in
    let zeros : replicate (7 - width (floor_divided d c)) (pos 0) ≡ floor_divided d (replicate (7 - width c) (pos 0)) = ap (λ (k : ℕ). replicate (7 - k) (pos 0)) same ∙ sym (zeros_divided d (7 - width c) h) in
    ap (λ (xs : List ℤ). floor_div (constant c) d ∷ xs) (
    map-append (λ x. floor_div x d) (coefficients c) (replicate (7 - width c) (pos 0))
    ∙ ap (λ (xs : List ℤ). xs ++ floor_divided d (replicate (7 - width c) (pos 0))) (sym front)
    ∙ ap (λ (xs : List ℤ). coefficients (floor_divided d c) ++ xs) (sym zeros))
    ∙ ap (λ (z : ℤ). z ∷ coefficients (floor_divided d c) ++ replicate (7 - width (floor_divided d c)) (pos 0)) (sym (constant_divided d c some))

-- the tightened form in lanes, by the size of the divisor
pub kept_lanes : (d : ℤ) (c form : List ℤ) → form ≡ lanes_of c → d ≡ gcd_of (drop 1 form) → pos 0 ≤ℤ d → d ≤ℤ pos 1 → form ≡ lanes_of (tighten c)
kept_lanes d c form is e low small =
    is ∙ ap lanes_of (sym (tighten_kept d c (e ∙ ap (λ (zs : List ℤ). gcd_of (drop 1 zs)) is ∙ common_in_lanes c) low small))

pub divided_lanes : (d : ℤ) (c form : List ℤ) → form ≡ lanes_of c → d ≡ gcd_of (drop 1 form) → pos 1 <ℤ d → 0 < length c → floor_divided d form ≡ lanes_of (tighten c)
divided_lanes d c form is e some long =
    let divisor : d ≡ gcd_of (coefficients c) = e ∙ ap (λ (zs : List ℤ). gcd_of (drop 1 zs)) is ∙ common_in_lanes c in
    ap (floor_divided d) is ∙ lanes_divided d c (omega (arith, ints, some)) long ∙ ap lanes_of (tighten_divided d c divisor some)

-- ---- the form that stands in lanes

-- that of a form's lanes is the form
pub form_again : (c : List ℤ) → 0 < length c → length c ≤ 8 → form_in (width c) (lanes_of c) ≡ c
form_again c some few =
    let parts = form-parts (width c) c (omega (arith, some)) in
    let front : take (width c) (coefficients c ++ replicate (7 - width c) (pos 0)) ≡ coefficients c =
    ap (λ (k : ℕ). take k (coefficients c ++ replicate (7 - width c) (pos 0))) (sym parts.1) ∙ take-append_seam (coefficients c) (replicate (7 - width c) (pos 0)) in
    ap (λ (xs : List ℤ). xs ++ constant c ∷ []) front ∙ sym parts.0

narrow_fits : (z : ℤ) → IsNarrow z → Fits z
narrow_fits z h = lt-ltb (unsigned_abs z) (2 ^ 127) (omega (arith, h))

narrow_fit : (zs : List ℤ) → ((k : ℕ) → IsNarrow (entry zs k)) → AllByRecursion Fits zs
narrow_fit [] h = tt
narrow_fit (z ∷ zs) h = (narrow_fits z (h 0), narrow_fit zs (λ k. h (suc k)))

-- a form is put behind a list, number by number
pub put_more : (old room now lanes : List ℤ) (k : ℕ) (z : ℤ) → AreLanes lanes → k + 1 < 8 → now ≡ room ++ z ∷ [] → room ≡ old ++ take k (drop 1 lanes) → z ≡ entry lanes (k + 1) → now ≡ old ++ take (k + 1) (drop 1 lanes)
put_more old room now lanes k z h few p e is =
    let next : get_or (drop 1 lanes) k (pos 0) ≡ z = get_or-drop 1 lanes k (pos 0) ∙ ap (entry lanes) (omega arith) ∙ sym is in
    let one : take (k + 1) (drop 1 lanes) ≡ take k (drop 1 lanes) ++ z ∷ [] = take_more (drop 1 lanes) k (pos 0) (simp length-drop (omega (arith, h.long, few))) ∙ ap (λ (y : ℤ). take k (drop 1 lanes) ++ y ∷ []) next in
    rw (p, e, one) (append_assoc old (take k (drop 1 lanes)) (z ∷ []))

pub put_last : (old room now lanes : List ℤ) (k w : ℕ) (z : ℤ) → now ≡ room ++ z ∷ [] → room ≡ old ++ take k (drop 1 lanes) → k ≡ w → z ≡ entry lanes 0 → now ≡ old ++ form_in w lanes
put_last old room now lanes k w z p e all is = rw (p, e, all, is) (append_assoc old (take w (drop 1 lanes)) (entry lanes 0 ∷ []))

pub is_form_in : (w : ℕ) (lanes : List ℤ) → AreLanes lanes → IsForm (form_in w lanes)
is_form_in w [] h = absurd (omega (arith, h.long))
is_form_in w (x ∷ lanes) h = record {
  some = simp length-append (omega arith);
  fits = All-append Fits (take w lanes) (x ∷ [])
      (All-take Fits w lanes (All-from_recursion Fits lanes (narrow_fit lanes (λ k. h.narrow (suc k)))))
      (All-cons Fits x [] (narrow_fits x (h.narrow 0)) (All-nil Fits));
}
