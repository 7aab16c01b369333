-- Quotients by key and by place.
use Rattle.new_parameters.proofs.Words.{◌≡◌, ℕ, zero, suc, ◌+◌, ◌-◌, ◌<◌, ◌≤◌, ℤ, pos, Bool, true, false, Option, Some, None, List, [], ◌∷◌, ◌++◌, length, take, refl, ap, sym, ◌∙◌, arith, cond, subst, length-append, position, slice_get, unwrap_or, get_or-take, length-replicate, width, coefficients, entry, Quotient, same_quotient, find_from, trimmed, is_same_key, IsQuotient, AreQuotients, length-coefficients, entry-padded}
use Rattle.std.specs.List.{position_from, position_or_len, list_any}
use Rattle.std.proofs.lemmas.Iterator.Adapters.{position_from-zero}
use Rattle.new_parameters.proofs.Trimming.{trimmed_is}
use Rattle.new_parameters.proofs.SameKeys.{same_quotient_is_key, same_key}

-- ---- lists of quotients

pub AreQuotients-append : (i : ℕ) (ks : List Quotient) (k : Quotient) → AreQuotients i ks → IsQuotient (i + length ks) k → AreQuotients i (ks ++ k ∷ [])
AreQuotients-append i [] k h is = (subst (λ (n : ℕ). IsQuotient n k) (omega arith) is, tt)
AreQuotients-append i (l ∷ ks) k h is = (h.0, AreQuotients-append (i + 1) ks k h.1 (subst (λ (n : ℕ). IsQuotient n k) (omega arith) is))

pub AreQuotients-take : (n i : ℕ) (ks : List Quotient) → AreQuotients i ks → AreQuotients i (take n ks)
AreQuotients-take (suc n) i (l ∷ ks) h = (h.0, AreQuotients-take n (i + 1) ks h.1)
AreQuotients-take _ i _ h = tt

pub quotient_got : (n i : ℕ) (ks : List Quotient) (k : Quotient) → n ≤ i → slice_get ks (i - n) ≡ Some k → AreQuotients n ks → IsQuotient i k
quotient_got n i ks k le = by (i - n) n i ks (omega arith)
  where
    by : (j n i : ℕ) (ks : List Quotient) → i ≡ n + j → slice_get ks j ≡ Some k → AreQuotients n ks → IsQuotient i k
    by j n i [] e got h = absurd cc
    by zero n i (l ∷ ks) e got h =
        let place : n ≡ i = omega (arith, e) in
        let same : l ≡ k = ap (λ (o : Option Quotient). unwrap_or o l) got in
        subst (λ (m : ℕ). IsQuotient m k) place (subst (IsQuotient n) same h.0)
    by (suc j) n i (l ∷ ks) e got h = by j (n + 1) i ks (omega (arith, e)) got h.1

-- ---- the first that is the same

-- the place of the first that passes the test, with i places before the list
abbrev pub shifted : ℕ → Option ℕ → Option ℕ
shifted i None = None
shifted i (Some n) = Some (i + n)

find_from_is : (i j : ℕ) (ls : List Quotient) (k : Quotient) → find_from (i + j) ls k ≡ shifted i (position_from (is_same_key k) j ls)
find_from_is i j [] k = refl
find_from_is i j (l ∷ ls) k =
    let next : i + j + 1 ≡ i + (j + 1) = omega arith in
    rw (same_quotient_is_key k l, next, find_from_is i (j + 1) ls k) (by (is_same_key k l))
  where
    by : (t : Bool) → cond t (Some (i + j)) (shifted i (position_from (is_same_key k) (j + 1) ls)) ≡ shifted i (cond t (Some j) (position_from (is_same_key k) (j + 1) ls))
    by true = refl
    by false = refl

pub find_is : (i : ℕ) (ls : List Quotient) (k : Quotient) (o : Option ℕ) → position (is_same_key k) ls ≡ o → find_from i ls k ≡ shifted i o
find_is i ls k o e =
    let start : i ≡ i + 0 = omega arith in
    ap (λ (n : ℕ). find_from n ls k) start ∙ find_from_is i 0 ls k ∙ ap (shifted i) (sym (position_from-zero (is_same_key k) ls) ∙ e)

-- a key that is not found passes no test
pub absent : (i : ℕ) (ls : List Quotient) (k : Quotient) → find_from i ls k ≡ None → (list_any (is_same_key k) ls ≡ false) × (position_or_len (is_same_key k) ls ≡ length ls)
absent i [] k h = (refl, refl)
absent i (l ∷ ls) k h = by (is_same_key k l) refl (ap (λ (t : Bool). cond t (Some i) (find_from (i + 1) ls k)) (sym (same_quotient_is_key k l)) ∙ h) (absent (i + 1) ls k)
  where
    by : (t : Bool) → is_same_key k l ≡ t → cond t (Some i) (find_from (i + 1) ls k) ≡ None → (find_from (i + 1) ls k ≡ None → (list_any (is_same_key k) ls ≡ false) × (position_or_len (is_same_key k) ls ≡ length ls))
        → (list_any (is_same_key k) (l ∷ ls) ≡ false) × (position_or_len (is_same_key k) (l ∷ ls) ≡ length (l ∷ ls))
    by true e f later = absurd cc
    by false e f later = let rest = later f in rw e (rest.0, omega (arith, rest.1))

-- ---- the form of a key that is found at place q is 0 there

-- coefficients whose trimmed part is that of at most q coefficients
pub trimmed_at : (c d : List ℤ) (q : ℕ) → trimmed (coefficients c) ≡ trimmed (coefficients d) → width d ≤ q → q < width c → entry c q ≡ pos 0
trimmed_at c d q e h lt =
    let mine = trimmed_is (coefficients c) in
    let other = trimmed_is (coefficients d) in
    let long : length (coefficients d) ≡ length (trimmed (coefficients d)) + other.0 = ap length other.1 ∙ simp (length-append, length-replicate) refl in
    let short : length (trimmed (coefficients c)) ≤ q = omega (arith, ap length e, long, length-coefficients d, h) in
    sym (get_or-take (width c) c q (pos 0) lt) ∙ ap (λ (xs : List ℤ). entry xs q) mine.1 ∙ entry-padded mine.0 (trimmed (coefficients c)) q short

pub found_at : (i : ℕ) (ls : List Quotient) (k : Quotient) (q : ℕ) → AreQuotients i ls → find_from i ls k ≡ Some q → q < width k.form → entry k.form q ≡ pos 0
found_at i [] k q h e = absurd cc
found_at i (l ∷ ls) k q h e = by (same_quotient l k) refl e (found_at (i + 1) ls k q h.1)
  where
    place_of : Option ℕ → ℕ
    place_of None = 0
    place_of (Some n) = n

    by : (t : Bool) → same_quotient l k ≡ t → cond t (Some i) (find_from (i + 1) ls k) ≡ Some q
        → (find_from (i + 1) ls k ≡ Some q → q < width k.form → entry k.form q ≡ pos 0) → q < width k.form → entry k.form q ≡ pos 0
    by true s f later lt =
        let here : i ≡ q = ap place_of f in
        trimmed_at k.form l.form q (same_key k l s).0 (omega (arith, here, h.0.width)) lt
    by false s f later lt = later f lt
