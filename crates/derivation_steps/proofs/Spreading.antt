-- Sums and forms whose last coefficients are left out where they are 0.
use Rattle.derivation_steps.proofs.Words.{◌≡◌, refl, ap, ap₂, derived, length-add, sym, ◌∙◌, ℕ, zero, suc, ◌+◌, ◌-◌, ◌<◌, ◌≤◌, ℤ, ◌+ℤ◌, ◌*ℤ◌, pos, negsuc, Bool, true, false, ◌&&◌, List, [], ◌∷◌, ◌++◌, length, take, drop, replicate, append_assoc, arith, ints, length-append, length-map, length-take, length-drop, length-replicate, take_at, get_or_at, fits, scale, add, entry, constant, width, coefficients, widen_to, all_fit, plus_term, plus_term_listed, is_divisible, fit_behind, map-append, take-append-drop, take_more, take_all, list_all-append, ◌≤ℤ◌, Some, divides, floor_div, is_zero, is_negative, floor_divided, is_absurd, fit_zeros, fit_drop, fit_join, fit_cons, spread, total, PartSum, IsPartSum}
use Rattle.std.proofs.Math.Nat.{zero-div, zero-mod, mod-one}
use Rattle.std.specs.List.{list_all}
use Rattle.pip_model.specs.Rows.{is_whole}
use Rattle.certificate_parts.proofs.Fitting.{vector_fits_from}

-- ---- zeros

replicate_add : (a b n : ℕ) (z : ℤ) → a + b ≡ n → replicate a z ++ replicate b z ≡ replicate n z
replicate_add zero b n z e = ap (λ (k : ℕ). replicate k z) (omega arith)
replicate_add (suc a) b zero z e = absurd (omega arith)
replicate_add (suc a) b (suc n) z e = ap (λ (l : List ℤ). z ∷ l) (replicate_add a b n z (omega arith))

pub plus_zero : (x : ℤ) → x +ℤ pos 0 ≡ x
plus_zero x = omega (arith, ints)

pub times_zero : (m : ℤ) → m *ℤ pos 0 ≡ pos 0
times_zero m = omega (arith, ints)

zero_times : (x : ℤ) → pos 0 *ℤ x ≡ pos 0
zero_times x = omega (arith, ints)

pub four_more : (xs : List ℤ) (n : ℕ) → 4 ≤ n → n ≤ length xs → drop (n - 4) xs ≡ replicate 4 (pos 0) ++ drop n xs → drop n xs ≡ replicate (length xs - n) (pos 0)
    → drop (n - 4) xs ≡ replicate (length xs - (n - 4)) (pos 0)
four_more xs n four h e rest =
    e ∙ ap (λ (l : List ℤ). replicate 4 (pos 0) ++ l) rest ∙ replicate_add 4 (length xs - n) (length xs - (n - 4)) (pos 0) (omega arith)

scale_zeros : (m : ℤ) (n : ℕ) → scale m (replicate n (pos 0)) ≡ replicate n (pos 0)
scale_zeros m zero = refl
scale_zeros m (suc n) = rw (times_zero m) (ap (λ (l : List ℤ). pos 0 ∷ l) (scale_zeros m n))

scale_none : (xs : List ℤ) → scale (pos 0) xs ≡ replicate (length xs) (pos 0)
scale_none [] = refl
scale_none (x ∷ xs) = rw (zero_times x) (ap (λ (l : List ℤ). pos 0 ∷ l) (scale_none xs))

add_zeros : (xs : List ℤ) (n : ℕ) → length xs ≡ n → add xs (replicate n (pos 0)) ≡ xs
add_zeros [] n e = refl
add_zeros (x ∷ xs) zero e = absurd (omega arith)
add_zeros (x ∷ xs) (suc n) e = rw (plus_zero x, add_zeros xs n (omega arith)) refl

plus_zeros : (a : List ℤ) (m : ℤ) (n : ℕ) → length a ≡ n → plus_term a m (replicate n (pos 0)) ≡ a
plus_zeros a m n e = ap (add a) (scale_zeros m n) ∙ add_zeros a n e

listed_zeros : (a : List ℤ) (m : ℤ) (n : ℕ) → length a ≡ n → all_fit (plus_term_listed a m (replicate n (pos 0))) ≡ all_fit a
listed_zeros a m n e =
    ap (λ (l : List ℤ). all_fit (l ++ add a l)) (scale_zeros m n)
    ∙ fit_behind (replicate n (pos 0)) (add a (replicate n (pos 0))) (fit_zeros n)
    ∙ ap all_fit (add_zeros a n e)

-- ---- a multiplier of 0

pub no_multiple : (sum c : List ℤ) → length sum ≡ length c → plus_term sum (pos 0) c ≡ sum
no_multiple sum c e = ap (add sum) (scale_none c) ∙ add_zeros sum (length c) e

pub no_multiple_listed : (sum c : List ℤ) → length sum ≡ length c → all_fit sum ≡ true → all_fit (plus_term_listed sum (pos 0) c) ≡ true
no_multiple_listed sum c e h =
    ap (λ (l : List ℤ). all_fit (l ++ add sum l)) (scale_none c)
    ∙ fit_behind (replicate (length c) (pos 0)) (add sum (replicate (length c) (pos 0))) (fit_zeros (length c))
    ∙ ap all_fit (add_zeros sum (length c) e)
    ∙ h

-- ---- added once to nothing

pub once : (x : ℤ) → pos 1 *ℤ x ≡ x
once x = omega (arith, ints)

zero_plus : (x : ℤ) → pos 0 +ℤ x ≡ x
zero_plus x = omega (arith, ints)

scale_once : (c : List ℤ) → scale (pos 1) c ≡ c
scale_once [] = refl
scale_once (x ∷ c) = ap₂ (λ (z : ℤ) (l : List ℤ). z ∷ l) (once x) (scale_once c)

zeros_add : (n : ℕ) (c : List ℤ) → length c ≡ n → add (replicate n (pos 0)) c ≡ c
zeros_add zero [] e = refl
zeros_add zero (x ∷ c) e = absurd (omega arith)
zeros_add (suc n) [] e = absurd (omega arith)
zeros_add (suc n) (x ∷ c) e = ap₂ (λ (z : ℤ) (l : List ℤ). z ∷ l) (zero_plus x) (zeros_add n c (omega arith))

pub first_added : (n : ℕ) (c : List ℤ) → length c ≡ n → plus_term (replicate n (pos 0)) (pos 1) c ≡ c
first_added n c e = ap (add (replicate n (pos 0))) (scale_once c) ∙ zeros_add n c e

pub first_listed : (n : ℕ) (c : List ℤ) → length c ≡ n → all_fit c ≡ true → all_fit (plus_term_listed (replicate n (pos 0)) (pos 1) c) ≡ true
first_listed n c e h =
    ap₂ (λ (a b : List ℤ). all_fit (a ++ b)) (scale_once c) (first_added n c e) ∙ fit_join c c h h

-- ---- sums of two parts

add_parts : (a b c d : List ℤ) → length a ≡ length c → add (a ++ b) (c ++ d) ≡ add a c ++ add b d
add_parts [] b [] d e = refl
add_parts (x ∷ a) b (y ∷ c) d e = ap (λ (l : List ℤ). (x +ℤ y) ∷ l) (add_parts a b c d (omega arith))
add_parts _ b _ d e = absurd (omega arith)

module _ (a b : List ℤ) (m : ℤ) (c d : List ℤ) (e : length a ≡ length c) where
  scaled : length a ≡ length (scale m c)
  scaled = e ∙ sym (length-map c (λ (x : ℤ). m *ℤ x))

  plus_parts : plus_term (a ++ b) m (c ++ d) ≡ plus_term a m c ++ plus_term b m d
  plus_parts = ap (add (a ++ b)) (map-append (λ (x : ℤ). m *ℤ x) c d) ∙ add_parts a b (scale m c) (scale m d) scaled

  turned : (p q r s : Bool) → ((p && q) && (r && s)) ≡ ((p && r) && (q && s))
  turned true true r s = refl
  turned true false true s = refl
  turned true false false s = refl
  turned false q r s = refl

  listed_parts : all_fit (plus_term_listed (a ++ b) m (c ++ d)) ≡ (all_fit (plus_term_listed a m c) && all_fit (plus_term_listed b m d))
  listed_parts =
      list_all-append fits (scale m (c ++ d)) (plus_term (a ++ b) m (c ++ d))
      ∙ ap₂ ◌&&◌ (ap all_fit (map-append (λ (x : ℤ). m *ℤ x) c d) ∙ list_all-append fits (scale m c) (scale m d)) (ap all_fit plus_parts ∙ list_all-append fits (plus_term a m c) (plus_term b m d))
      ∙ turned (all_fit (scale m c)) (all_fit (scale m d)) (all_fit (plus_term a m c)) (all_fit (plus_term b m d))
      ∙ sym (ap₂ ◌&&◌ (list_all-append fits (scale m c) (plus_term a m c)) (list_all-append fits (scale m d) (plus_term b m d)))

-- ---- forms that are spread

pub spread_padded : (w j : ℕ) (cs : List ℤ) (t : ℤ) → length cs + j ≤ w → spread w (cs ++ replicate j (pos 0)) t ≡ spread w cs t
spread_padded w j cs t h =
    let long : length (cs ++ replicate j (pos 0)) ≡ length cs + j = simp (length-append, length-replicate) refl in
    let rest : j + (w - length (cs ++ replicate j (pos 0))) ≡ w - length cs = omega (arith, long, h) in
    ap (λ (l : List ℤ). l ++ t ∷ []) (append_assoc cs (replicate j (pos 0)) (replicate (w - length (cs ++ replicate j (pos 0))) (pos 0)) ∙ ap (λ (l : List ℤ). cs ++ l) (replicate_add j (w - length (cs ++ replicate j (pos 0))) (w - length cs) (pos 0) rest))

wide_before : (front : List ℤ) (u : ℤ) → width (front ++ u ∷ []) ≡ length front
wide_before front u = let e = length-append front (u ∷ []) in omega (arith, e)

pub coefficients_before : (front : List ℤ) (u : ℤ) → coefficients (front ++ u ∷ []) ≡ front
coefficients_before front u = ap (λ (n : ℕ). take n (front ++ u ∷ [])) (wide_before front u) ∙ take_at front (u ∷ []) (length front) refl

pub constant_behind : (front : List ℤ) (u : ℤ) → constant (front ++ u ∷ []) ≡ u
constant_behind front u = ap (λ (n : ℕ). entry (front ++ u ∷ []) n) (wide_before front u) ∙ get_or_at front u [] (pos 0) (length front) refl

pub widened_is : (w : ℕ) (front : List ℤ) (u : ℤ) → widen_to w (front ++ u ∷ []) ≡ spread w front u
widened_is w front u =
    ap₂ (λ (l r : List ℤ). l ++ r) (ap₂ (λ (l r : List ℤ). l ++ r) (coefficients_before front u) (ap (λ (n : ℕ). replicate (w - n) (pos 0)) (wide_before front u))) (ap (λ (z : ℤ). z ∷ []) (constant_behind front u))

-- in two parts, of which the first has so many coefficients
spread_split : (w n : ℕ) (cs : List ℤ) (t : ℤ) → spread w cs t ≡ take n cs ++ ((drop n cs ++ replicate (w - length cs) (pos 0)) ++ t ∷ [])
spread_split w n cs t =
    let zeros = replicate (w - length cs) (pos 0) in
    ap (λ (l : List ℤ). (l ++ replicate (w - length cs) (pos 0)) ++ t ∷ []) (sym (take-append-drop n cs))
    ∙ ap (λ (l : List ℤ). l ++ t ∷ []) (append_assoc (take n cs) (drop n cs) zeros)
    ∙ append_assoc (take n cs) (drop n cs ++ zeros) (t ∷ [])

module _ (w : ℕ) (cs : List ℤ) (t m : ℤ) (front : List ℤ) (u : ℤ) (h : length cs ≤ w) (k : length front ≤ length cs) where
  abbrev behind : List ℤ
  behind = drop (length front) cs ++ replicate (w - length cs) (pos 0)

  abbrev zeros : List ℤ
  zeros = replicate (w - length front) (pos 0)

  first : length (take (length front) cs) ≡ length front
  first = let e = length-take (length front) cs in omega (arith, e, k)

  rest : length behind ≡ w - length front
  rest =
      let g = length-replicate (w - length cs) (pos 0) in
      omega (arith, (length-append (drop (length front) cs) (replicate (w - length cs) (pos 0))), (length-drop (length front) cs), g, h, k)

  as_zeros : length behind ≡ length zeros
  as_zeros = rest ∙ sym (length-replicate (w - length front) (pos 0))

  apart : spread w front u ≡ front ++ (zeros ++ u ∷ [])
  apart = append_assoc front zeros (u ∷ [])

  pub spread_added : length (plus_term (take (length front) cs) m front) ≡ length front → plus_term (spread w cs t) m (spread w front u) ≡ spread w (plus_term (take (length front) cs) m front ++ drop (length front) cs) (t +ℤ m *ℤ u)
  spread_added long =
      let X = plus_term (take (length front) cs) m front in
      let D = drop (length front) cs in
      let Z = replicate (w - length cs) (pos 0) in
      let v = t +ℤ m *ℤ u in
      let same : length (plus_term (take (length front) cs) m front ++ drop (length front) cs) ≡ length cs = (let e = length-append (plus_term (take (length front) cs) m front) (drop (length front) cs) in let f = length-drop (length front) cs in omega (arith, e, f, long, k)) in
      ap₂ (λ (a b : List ℤ). plus_term a m b) (spread_split w (length front) cs t) apart
      ∙ plus_parts (take (length front) cs) (behind ++ t ∷ []) m front (zeros ++ u ∷ []) first
      ∙ ap (λ (l : List ℤ). X ++ l) (plus_parts behind (t ∷ []) m zeros (u ∷ []) as_zeros ∙ ap (λ (l : List ℤ). l ++ v ∷ []) (plus_zeros behind m (w - length front) rest))
      ∙ sym (append_assoc X (D ++ Z) (v ∷ []))
      ∙ ap (λ (l : List ℤ). l ++ v ∷ []) (sym (append_assoc X D Z))
      ∙ ap (λ (j : ℕ). ((X ++ D) ++ replicate (w - j) (pos 0)) ++ v ∷ []) (sym same)

  pub spread_listed : all_fit cs ≡ true → all_fit (plus_term_listed (spread w cs t) m (spread w front u)) ≡ all_fit (plus_term_listed (take (length front) cs) m front ++ (m *ℤ u) ∷ (t +ℤ m *ℤ u) ∷ [])
  spread_listed fit =
      let padded : all_fit behind ≡ true = fit_join (drop (length front) cs) (replicate (w - length cs) (pos 0)) (fit_drop (length front) cs fit) (fit_zeros (w - length cs)) in
      ap₂ (λ (a b : List ℤ). all_fit (plus_term_listed a m b)) (spread_split w (length front) cs t) apart
      ∙ listed_parts (take (length front) cs) (behind ++ t ∷ []) m front (zeros ++ u ∷ []) first
      ∙ ap (λ (b : Bool). all_fit (plus_term_listed (take (length front) cs) m front) && b) (listed_parts behind (t ∷ []) m zeros (u ∷ []) as_zeros ∙ ap (λ (b : Bool). b && all_fit ((m *ℤ u) ∷ (t +ℤ m *ℤ u) ∷ [])) (listed_zeros behind m (w - length front) rest ∙ padded))
      ∙ sym (list_all-append fits (plus_term_listed (take (length front) cs) m front) ((m *ℤ u) ∷ (t +ℤ m *ℤ u) ∷ []))

-- ---- the front of a form, as front and constant

split_last : (c : List ℤ) → 0 < length c → c ≡ take (length c - 1) c ++ entry c (length c - 1) ∷ []
split_last c h = sym (take_all (length c - 1 + 1) c (omega (arith, h))) ∙ take_more c (length c - 1) (pos 0) (omega (arith, h))

pub length-plus_term : (a : List ℤ) (m : ℤ) (c : List ℤ) → length a ≡ length c → length (plus_term a m c) ≡ length c
length-plus_term a m c e = length-add a (scale m c) (e ∙ sym (length-map c (λ (x : ℤ). m *ℤ x))) ∙ e

-- a multiple of a form that is added where the sum has as many coefficients, or gets them
module _ (w : ℕ) (cs : List ℤ) (t m : ℤ) (form : List ℤ) (h : length cs ≤ w) (some : 0 < length form) (k : length form ≤ w + 1) where
  abbrev front : List ℤ
  front = take (length form - 1) form

  abbrev grown : List ℤ
  grown = cs ++ replicate (length (take (length form - 1) form) - length cs) (pos 0)

  long : length front ≡ length form - 1
  long = let e = length-take (length form - 1) form in omega (arith, e)

  reached : length grown ≡ length cs + (length front - length cs)
  reached = simp (length-append, length-replicate) refl

  wide : widen_to w form ≡ spread w front (entry form (length form - 1))
  wide = ap (widen_to w) (split_last form some) ∙ widened_is w front (entry form (length form - 1))

  same : spread w grown t ≡ spread w cs t
  same = let f = long in spread_padded w (length front - length cs) cs t (omega (arith, f, h, k))

  pub multiple_added : plus_term (spread w cs t) m (widen_to w form) ≡ spread w (plus_term (take (length front) grown) m front ++ drop (length front) grown) (t +ℤ m *ℤ entry form (length form - 1))
  multiple_added =
      let e = reached in
      let f = long in
      let within : length grown ≤ w = omega (arith, e, f, h, k) in
      let enough : length front ≤ length grown = omega (arith, e, f) in
      let taken : length (take (length front) grown) ≡ length front = (let g = length-take (length front) grown in omega (arith, g, enough)) in
      ap₂ (λ (a b : List ℤ). plus_term a m b) (sym same) wide
      ∙ spread_added w grown t m front (entry form (length form - 1)) within enough (length-plus_term (take (length front) grown) m front taken)

  pub multiple_listed : all_fit cs ≡ true → all_fit (plus_term_listed (spread w cs t) m (widen_to w form)) ≡ all_fit (plus_term_listed (take (length front) grown) m front ++ (m *ℤ entry form (length form - 1)) ∷ (t +ℤ m *ℤ entry form (length form - 1)) ∷ [])
  multiple_listed fit =
      let e = reached in
      let f = long in
      let within : length grown ≤ w = omega (arith, e, f, h, k) in
      let enough : length front ≤ length grown = omega (arith, e, f) in
      ap₂ (λ (a b : List ℤ). all_fit (plus_term_listed a m b)) (sym same) wide
      ∙ spread_listed w grown t m front (entry form (length form - 1)) within enough (fit_join cs (replicate (length front - length cs) (pos 0)) fit (fit_zeros (length front - length cs)))

-- ---- the same of sums

part_fits : (s : PartSum) → IsPartSum s → all_fit s.coefficients ≡ true
part_fits s p = vector_fits_from (Some s.coefficients) p.fits

pub total_fits : (s : PartSum) → IsPartSum s → all_fit (total s) ≡ true
total_fits s p =
    fit_join (s.coefficients ++ replicate (s.width - length s.coefficients) (pos 0)) (s.constant ∷ [])
    (fit_join s.coefficients (replicate (s.width - length s.coefficients) (pos 0)) (part_fits s p) (fit_zeros (s.width - length s.coefficients)))
    (fit_cons s.constant [] p.constant refl)

pub length-total : (s : PartSum) → IsPartSum s → length (total s) ≡ s.width + 1
length-total s p =
    let f = length-append s.coefficients (replicate (s.width - length s.coefficients) (pos 0)) in
    let g = length-replicate (s.width - length s.coefficients) (pos 0) in
    omega (arith, (length-append (s.coefficients ++ replicate (s.width - length s.coefficients) (pos 0)) (s.constant ∷ [])), f, g, p.within)

module _ (s r : PartSum) (m : ℤ) (form front : List ℤ) (u : ℤ) (p : IsPartSum s) (some : 0 < length form) (k : length form ≤ s.width + 1) (reach : r ≡ record s { coefficients = s.coefficients ++ replicate (length front - length s.coefficients) (pos 0) }) (f : front ≡ take (length form - 1) form) (e : u ≡ entry form (length form - 1)) where
  pub added_listed : all_fit (plus_term_listed (total s) m (widen_to s.width form)) ≡ all_fit (plus_term_listed (take (length front) r.coefficients) m front ++ (m *ℤ u) ∷ (r.constant +ℤ m *ℤ u) ∷ [])
  added_listed = rw (reach, f, e) (multiple_listed s.width s.coefficients s.constant m form p.within some k (part_fits s p))

  pub added : (now : PartSum) → now ≡ record r { coefficients = plus_term (take (length front) r.coefficients) m front ++ drop (length front) r.coefficients; constant = r.constant +ℤ m *ℤ u }
      → total now ≡ plus_term (total s) m (widen_to s.width form)
  added now is = rw (is, reach, f, e) (sym (multiple_added s.width s.coefficients s.constant m form p.within some k))

-- the front of a list that ends where the zeros begin
pub spread_front : (w n : ℕ) (cs : List ℤ) (t : ℤ) → n ≤ length cs → cs ≡ take n cs ++ replicate (length cs - n) (pos 0) → length cs ≤ w → widen_to w (take n cs ++ t ∷ []) ≡ spread w cs t
spread_front w n cs t h e k =
    let front = length-take n cs in
    widened_is w (take n cs) t ∙ sym (spread_padded w (length cs - n) (take n cs) t (omega (arith, front, h, k))) ∙ ap (λ (l : List ℤ). spread w l t) (sym e)

-- a form that is copied without the zeros before its constant
pub begun : (w : ℕ) (form places front : List ℤ) (n : ℕ) (u : ℤ) → 0 < length form → length form ≤ w + 1 → places ≡ take (length form - 1) form → n ≤ length places
    → places ≡ take n places ++ replicate (length places - n) (pos 0) → front ≡ take n places → u ≡ entry form (length form - 1) → spread w front u ≡ widen_to w form
begun w form places front n u some k all within zeros f e =
    let long : length places ≡ length form - 1 = (let g = length-take (length form - 1) form in ap length all ∙ omega (arith, g)) in
    sym (widened_is w front u)
    ∙ ap (λ (l : List ℤ). widen_to w (l ++ u ∷ [])) f
    ∙ spread_front w n places u within zeros (omega (arith, long, k, some))
    ∙ ap₂ (λ (l : List ℤ) (z : ℤ). spread w l z) all e
    ∙ sym (widened_is w (take (length form - 1) form) (entry form (length form - 1)))
    ∙ ap (widen_to w) (sym (split_last form some))

-- a form without the zeros before its constant
module _ (s r : PartSum) (m : ℤ) (form places front : List ℤ) (n : ℕ) (u : ℤ) (p : IsPartSum s) (some : 0 < length form) (k : length form ≤ s.width + 1) (reach : r ≡ record s { coefficients = s.coefficients ++ replicate (length front - length s.coefficients) (pos 0) }) (all : places ≡ take (length form - 1) form) (within : n ≤ length places) (zeros : places ≡ take n places ++ replicate (length places - n) (pos 0)) (f : front ≡ take n places) (e : u ≡ entry form (length form - 1)) where
  abbrev short : List ℤ
  short = front ++ u ∷ []

  places_long : length places ≡ length form - 1
  places_long = let g = length-take (length form - 1) form in ap length all ∙ omega (arith, g)

  count : length short ≡ n + 1
  count = let g = length-append front (u ∷ []) in let h = ap length f in let i = length-take n places in omega (arith, g, h, i, within)

  short_same : widen_to s.width short ≡ widen_to s.width form
  short_same =
      ap (λ (l : List ℤ). widen_to s.width (l ++ u ∷ [])) f
      ∙ spread_front s.width n places u within zeros (omega (arith, places_long, k, some))
      ∙ ap₂ (λ (l : List ℤ) (z : ℤ). spread s.width l z) all e
      ∙ sym (widened_is s.width (take (length form - 1) form) (entry form (length form - 1)))
      ∙ ap (widen_to s.width) (sym (split_last form some))

  pub narrow_listed : all_fit (plus_term_listed (total s) m (widen_to s.width form)) ≡ all_fit (plus_term_listed (take (length front) r.coefficients) m front ++ (m *ℤ u) ∷ (r.constant +ℤ m *ℤ u) ∷ [])
  narrow_listed =
      ap (λ (c : List ℤ). all_fit (plus_term_listed (total s) m c)) (sym short_same)
      ∙ added_listed s r m short front u p (omega (arith, count)) (omega (arith, count, places_long, within, k, some)) reach (sym (coefficients_before front u)) (sym (constant_behind front u))

  pub narrow_added : (now : PartSum) → now ≡ record r { coefficients = plus_term (take (length front) r.coefficients) m front ++ drop (length front) r.coefficients; constant = r.constant +ℤ m *ℤ u }
      → total now ≡ plus_term (total s) m (widen_to s.width form)
  narrow_added now is =
      added s r m short front u p (omega (arith, count)) (omega (arith, count, places_long, within, k, some)) reach (sym (coefficients_before front u)) (sym (constant_behind front u)) now is
      ∙ ap (λ (c : List ℤ). plus_term (total s) m c) short_same

-- ---- divisors

floor_zero : (d : ℤ) → pos 1 ≤ℤ d → floor_div (pos 0) d ≡ pos 0
floor_zero (pos d) h = ap pos (zero-div d)
floor_zero (negsuc d) h = absurd (omega (arith, ints))

divides_zero : (d : ℤ) → pos 1 ≤ℤ d → divides d (pos 0) ≡ true
divides_zero (pos d) h = ap (λ (n : ℕ). is_zero (pos n)) (zero-mod d)
divides_zero (negsuc d) h = absurd (omega (arith, ints))

all_divide : (d : ℤ) (n : ℕ) → pos 1 ≤ℤ d → list_all (divides d) (replicate n (pos 0)) ≡ true
all_divide d zero h = refl
all_divide d (suc n) h = rw (divides_zero d h) (all_divide d n h)

floors_zeros : (d : ℤ) (n : ℕ) → pos 1 ≤ℤ d → floor_divided d (replicate n (pos 0)) ≡ replicate n (pos 0)
floors_zeros d zero h = refl
floors_zeros d (suc n) h = ap₂ (λ (z : ℤ) (l : List ℤ). z ∷ l) (floor_zero d h) (floors_zeros d n h)

and_true : (b c : Bool) → c ≡ true → (b && c) ≡ b
and_true true c e = e
and_true false c e = refl

pub spread_divisible : (d : ℤ) (w : ℕ) (cs : List ℤ) (t : ℤ) → pos 1 ≤ℤ d → is_whole d cs ≡ is_divisible d (spread w cs t)
spread_divisible d w cs t h =
    let zeros = replicate (w - length cs) (pos 0) in
    sym (and_true (list_all (divides d) cs) (list_all (divides d) zeros) (all_divide d (w - length cs) h))
    ∙ sym (list_all-append (divides d) cs zeros)
    ∙ ap (list_all (divides d)) (sym (coefficients_before (cs ++ zeros) t))

pub spread_divided : (d : ℤ) (w : ℕ) (cs : List ℤ) (t : ℤ) → pos 1 ≤ℤ d → derived d (spread w cs t) ≡ spread w (floor_divided d cs) (floor_div t d)
spread_divided d w cs t h =
    let f : ℤ → ℤ = λ x. floor_div x d in
    let zeros = replicate (w - length cs) (pos 0) in
    let same : length (floor_divided d cs) ≡ length cs = length-map cs (λ (x : ℤ). floor_div x d) in
    map-append (λ (x : ℤ). floor_div x d) (cs ++ zeros) (t ∷ [])
    ∙ ap (λ (l : List ℤ). l ++ floor_div t d ∷ []) (map-append (λ (x : ℤ). floor_div x d) cs zeros ∙ ap (λ (l : List ℤ). floor_divided d cs ++ l) (floors_zeros d (w - length cs) h ∙ ap (λ (n : ℕ). replicate (w - n) (pos 0)) (sym same)))

-- ---- below 0 everywhere

no_number : (n : ℕ) → list_all is_zero (replicate n (pos 0)) ≡ true
no_number zero = refl
no_number (suc n) = no_number n

pub spread_absurd : (w : ℕ) (cs : List ℤ) (t : ℤ) → (list_all is_zero cs && is_negative t) ≡ is_absurd (spread w cs t)
spread_absurd w cs t =
    let zeros = replicate (w - length cs) (pos 0) in
    sym (ap₂ ◌&&◌
    (ap (list_all is_zero) (coefficients_before (cs ++ zeros) t) ∙ list_all-append is_zero cs zeros ∙ and_true (list_all is_zero cs) (list_all is_zero zeros) (no_number (w - length cs)))
    (ap is_negative (constant_behind (cs ++ zeros) t)))

-- ---- a divisor of 1

all_whole : (cs : List ℤ) → list_all (divides (pos 1)) cs ≡ true
all_whole [] = refl
all_whole (c ∷ cs) = rw (divides_one c) (all_whole cs)
  where
    divides_one : (z : ℤ) → divides (pos 1) z ≡ true
    divides_one (pos n) = ap (λ (k : ℕ). is_zero (pos k)) (mod-one n)
    divides_one (negsuc n) = ap (λ (k : ℕ). is_zero (pos (0 - k))) (mod-one n)

pub not_divided : (sum : List ℤ) → is_divisible (pos 1) sum ≡ true
not_divided sum = all_whole (coefficients sum)

-- ---- nothing added
