-- Forms in lanes: the sum of their sizes, and their lanes one after the other.
use Rattle.lane_questions.proofs.Words.{get_or, ◌≡◌, ◌∙◌, refl, ap, sym, ℕ, zero, suc, ◌+◌, ◌-◌, ◌^◌, ◌<◌, ◌≤◌, ℤ, pos, ◌-ℤ◌, neg_ℤ, unsigned_abs, to_z, of_z, w32, to_z-of_z, fits_signed_from_abs, FitsSigned, arith, List, [], ◌∷◌, ◌++◌, length, take, set, replicate, append_assoc, length-append, take-suc, set-append_seam, map-append, length-take-le, All-append, All-cons, All-nil, ints, slice_set, entry, constant, negate, norm, AreLanes, lanes_of, all_lanes, IsWithin, AreWithin, AreFirst}
use Rattle.lanes.specs.Narrow.{IsNarrow}

-- ---- the sum of sizes

pub norm_step : (zs : List ℤ) (k i : ℕ) → i ≡ k + 1 → norm (take i zs) ≡ norm (take k zs) + unsigned_abs (entry zs k)
norm_step [] zero (suc i) e = refl
norm_step [] (suc k) (suc i) e = refl
norm_step (z ∷ zs) zero (suc zero) e = omega arith
norm_step (z ∷ zs) (suc k) (suc i) e = omega (arith, norm_step zs k i (omega arith))
norm_step _ _ _ e = absurd (omega arith)

-- opposites have the same sizes
norm_negate : (zs : List ℤ) → norm (negate zs) ≡ norm zs
norm_negate [] = refl
norm_negate (z ∷ zs) = let one : unsigned_abs (neg_ℤ z) ≡ unsigned_abs z = omega (arith, ints) in omega (arith, one, norm_negate zs)

-- one less in a lane is one more at most
pub norm_opposite : (zs new : List ℤ) (z : ℤ) → AreLanes zs → z ≡ neg_ℤ (entry zs 0) -ℤ pos 1 → new ≡ slice_set (negate zs) 0 z → norm new ≤ norm zs + 1
norm_opposite [] new z h e is = absurd (omega (arith, h.long))
norm_opposite (x ∷ zs) new z h e is =
    let one : unsigned_abs z ≤ unsigned_abs x + 1 = omega (arith, ints, e) in
    let all : norm new ≡ unsigned_abs z + norm (negate zs) = ap norm is in
    omega (arith, one, all, norm_negate zs)

-- none of them is greater
pub small_first : (zs : List ℤ) (z : ℤ) → AreLanes zs → norm zs < 2 ^ 30 → z ≡ entry (negate zs) 0 → unsigned_abs z < 2 ^ 30
small_first [] z h small e = absurd (omega (arith, h.long))
small_first (x ∷ zs) z h small e = omega (arith, ints, e, small)

-- one less than a number of 30 bits, as code holds it
held : (z : ℤ) → unsigned_abs z < 2 ^ 31 → to_z w32 (of_z w32 z) ≡ z
held z h = to_z-of_z w32 z (fits_signed_from_abs w32 z h)

smaller : (z : ℤ) → unsigned_abs z < 2 ^ 30 → unsigned_abs (z -ℤ pos 1) < 2 ^ 31
smaller z h = omega (arith, ints, h)

pub less_fits : (z : ℤ) → unsigned_abs z < 2 ^ 30 → FitsSigned w32 (to_z w32 (of_z w32 z) -ℤ pos 1)
less_fits z h = rw (held z (omega (arith, h))) (fits_signed_from_abs w32 (z -ℤ pos 1) (smaller z h))

pub less_held : (z : ℤ) → unsigned_abs z < 2 ^ 30 → to_z w32 (of_z w32 (to_z w32 (of_z w32 z) -ℤ pos 1)) ≡ z -ℤ pos 1
less_held z h = rw (held z (omega (arith, h))) (held (z -ℤ pos 1) (smaller z h))

pub less_narrow : (z : ℤ) → unsigned_abs z < 2 ^ 30 → IsNarrow (to_z w32 (of_z w32 (to_z w32 (of_z w32 z) -ℤ pos 1)))
less_narrow z h = rw (less_held z h) (smaller z h)

-- ---- lanes of a form

-- the constant and the first k coefficients of a form, at most 7
abbrev pub first_lanes : List ℤ → ℕ → List ℤ
first_lanes es k = constant es ∷ take k es ++ replicate (7 - k) (pos 0)

zeros_more : (m : ℕ) → 1 ≤ m → replicate m (pos 0) ≡ pos 0 ∷ replicate (m - 1) (pos 0)
zeros_more zero h = absurd (omega arith)
zeros_more (suc m) h = let e : suc m - 1 ≡ m = omega arith in rw e refl

pub lane_step : (es now new : List ℤ) (k i : ℕ) (z : ℤ) → now ≡ first_lanes es k → k < length es → k < 7 → z ≡ entry es k → new ≡ slice_set now (k + 1) z → i ≡ k + 1 → new ≡ first_lanes es i
lane_step es now new k i z was inside few is e next =
    let long : length (take k es) ≡ k = length-take-le k es (omega arith) in
    let zeros : replicate (7 - k) (pos 0) ≡ pos 0 ∷ replicate (7 - k - 1) (pos 0) = zeros_more (7 - k) (omega arith) in
    let place : k + 1 ≡ suc k = omega arith in
    let less : 7 - k - 1 ≡ 7 - i = omega arith in
    let more : i ≡ suc k = omega arith in
    e ∙ ap (λ (xs : List ℤ). slice_set xs (k + 1) z) was
    ∙ ap (λ (j : ℕ). set (first_lanes es k) j z) place
    ∙ ap (λ (xs : List ℤ). constant es ∷ xs) (
    ap (λ (xs : List ℤ). set (take k es ++ xs) k z) zeros
    ∙ ap (λ (j : ℕ). set (take k es ++ pos 0 ∷ replicate (7 - k - 1) (pos 0)) j z) (sym long)
    ∙ set-append_seam (take k es) (pos 0) (replicate (7 - k - 1) (pos 0)) z
    ∙ ap (λ (x : ℤ). take k es ++ x ∷ replicate (7 - k - 1) (pos 0)) is
    ∙ ap (λ (m : ℕ). take k es ++ entry es k ∷ replicate m (pos 0)) less
    ∙ sym (append_assoc (take k es) (entry es k ∷ []) (replicate (7 - i) (pos 0)))
    ∙ ap (λ (xs : List ℤ). xs ++ replicate (7 - i) (pos 0)) (sym (take-suc es k (pos 0) inside))
    ∙ ap (λ (j : ℕ). take j es ++ replicate (7 - i) (pos 0)) (sym more))

-- ---- lists of forms

pub within_more : (m n : ℕ) (forms : List (List ℤ)) → m ≤ n → AreWithin m forms → AreWithin n forms
within_more m n forms le h k d lt = record { lanes = (h k d lt).lanes; norm = omega (arith, (h k d lt).norm) }

pub within_pushed : (m s n : ℕ) (forms : List (List ℤ)) (form : List ℤ) → m ≤ n → s ≤ n → AreWithin m forms → AreLanes form → s ≡ norm form → AreWithin n (forms ++ form ∷ [])
within_pushed m s n forms form more size h lanes e =
    All-append (IsWithin n) forms (form ∷ []) (within_more m n forms more h)
    (All-cons (IsWithin n) form [] (record { lanes = lanes; norm = omega (arith, size, e) }) (All-nil (IsWithin n)))

pub first_step : (K forms new : List (List ℤ)) (c form : List ℤ) (i : ℕ) → AreFirst K forms → i ≡ length forms → i < length K → c ≡ get_or K i c → form ≡ lanes_of c → new ≡ forms ++ form ∷ [] → AreFirst K new
first_step K forms new c form i h at inside is lanes e =
    let long : length new ≡ suc i = ap length e ∙ simp length-append (omega (arith, at)) in
    record {
      number = omega (arith, long, inside);
      same =
          let front : forms ≡ all_lanes (take i K) = h.same ∙ ap (λ (k : ℕ). all_lanes (take k K)) (sym at) in
          let back : form ∷ [] ≡ all_lanes (get_or K i c ∷ []) = ap (λ (x : List ℤ). x ∷ []) (lanes ∙ ap lanes_of is) in
          e ∙ ap (λ (xs : List (List ℤ)). xs ++ form ∷ []) front ∙ ap (λ (xs : List (List ℤ)). all_lanes (take i K) ++ xs) back
          ∙ sym (map-append lanes_of (take i K) (get_or K i c ∷ []))
          ∙ ap all_lanes (sym (take-suc K i c inside))
          ∙ ap (λ (k : ℕ). all_lanes (take k K)) (sym long);
    }

pub first_place : (forms new : List (List ℤ)) (form : List ℤ) (i : ℕ) → i ≡ length forms → new ≡ forms ++ form ∷ [] → i + 1 ≡ length new
first_place forms new form i at e = sym (ap length e ∙ simp length-append (omega (arith, at)))
