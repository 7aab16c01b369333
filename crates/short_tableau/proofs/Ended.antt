-- The signs of a row's numbers after a pivot, read off before it is divided.
use Rattle.short_tableau.proofs.Words.{◌≡◌, refl, ap, sym, ◌∙◌, ℕ, zero, suc, ◌+◌, ◌<◌, ◌≤◌, ℤ, pos, negsuc, ◌≤ℤ◌, ◌*ℤ◌, ◌-ℤ◌, true, false, List, [], ◌∷◌, length, map, arith, ints, entry, constant, Row, divided, substituted, eliminated, gcd, gcd_of, floor_div, floor_mod, floor_divided, gcd_between, is_positive, get_or-map, get_or-set_same, combine, length-combine, entry-combine, length-map, length-set, eliminated_none, quotient_positive, IsPivot, IsShortReduced, Some, row_at, form_row, drop, drop_more, take, get_or-take, length-take-le, negative_from, fraction_from, ◌+ℤ◌, ◌≢◌, get_or-set_other, some_product, list_any, is_nonneg, is_zero, divides, is_whole}
use Rattle.pip_model.proofs.RingLaws.{*ℤ_assoc}
use Rattle.pip_model.proofs.Laws.{floor_mod-law}
use Rattle.pip_model.proofs.Division.{Multiple, gcd-divides, floor-exact, floor-unique, rest_of}

-- ---- a number divided

sign_part : (e : ℕ) (f t : ℤ) (r : ℕ) → r < suc e → t ≡ pos (suc e) *ℤ f +ℤ pos r → is_nonneg t ≡ is_nonneg f
sign_part e (pos n) (negsuc k) r h is = absurd (omega (arith, ints))
sign_part e (negsuc n) (pos k) r h is = absurd (omega (arith, ints))
sign_part e _ _ r h is = refl

sign_floor : (t g : ℤ) → pos 1 ≤ℤ g → is_nonneg (floor_div t g) ≡ is_nonneg t
sign_floor t (negsuc e) h = absurd (omega (arith, ints))
sign_floor t (pos zero) h = absurd (omega (arith, ints))
sign_floor t (pos (suc e)) h =
    let r = rest_of t (suc e) (omega arith) in
    sym (sign_part e (floor_div t (pos (suc e))) t r.rest r.below r.is)

positive_part : (e : ℕ) (f t : ℤ) (r : ℕ) → t ≡ pos (suc e) *ℤ f +ℤ pos r → is_positive t ≡ false → is_positive f ≡ false
positive_part e (pos (suc k)) (pos (suc m)) r is none = absurd cc
positive_part e (pos (suc k)) _ r is none = absurd (omega (arith, ints))
positive_part e _ t r is none = refl

positive_floor : (t g : ℤ) → pos 1 ≤ℤ g → is_positive t ≡ false → is_positive (floor_div t g) ≡ false
positive_floor t (negsuc e) h none = absurd (omega (arith, ints))
positive_floor t (pos zero) h none = absurd (omega (arith, ints))
positive_floor t (pos (suc e)) h none =
    let r = rest_of t (suc e) (omega arith) in
    positive_part e (floor_div t (pos (suc e))) t r.rest r.is none

-- ---- a row divided

abbrev divisor : Row → ℤ
divisor r = gcd r.den (gcd (gcd_of r.coefs) (gcd_of r.constant))

divisor_positive : (r : Row) → pos 1 ≤ℤ r.den → pos 1 ≤ℤ divisor r
divisor_positive r h = (gcd_between r.den (gcd (gcd_of r.coefs) (gcd_of r.constant)) h).0

constant_divided : (g : ℤ) (ts : List ℤ) → length ts ≡ 1 → constant (floor_divided g ts) ≡ floor_div (constant ts) g
constant_divided g (t ∷ []) h = refl
constant_divided g _ h = absurd (omega arith)

pub nonneg_divided : (r : Row) → pos 1 ≤ℤ r.den → length r.constant ≡ 1 → is_nonneg (constant (divided r).constant) ≡ is_nonneg (constant r.constant)
nonneg_divided r h one =
    ap is_nonneg (constant_divided (divisor r) r.constant one) ∙ sign_floor (constant r.constant) (divisor r) (divisor_positive r h)

pub positive_divided : (r : Row) (k : ℕ) → pos 1 ≤ℤ r.den → k < length r.coefs → is_positive (entry r.coefs k) ≡ false → is_positive (entry (divided r).coefs k) ≡ false
positive_divided r k h lt none =
    ap is_positive (get_or-map (λ x. floor_div x (divisor r)) r.coefs k (pos 0) (pos 0) lt)
    ∙ positive_floor (entry r.coefs k) (divisor r) (divisor_positive r h) none

-- a row is whole where its denominator divides its constant before the division
zero_left : (d q r x : ℤ) → d *ℤ q +ℤ r ≡ x → x ≡ d *ℤ q → is_zero r ≡ true
zero_left d q r x e f = let none : r ≡ pos 0 = omega (arith, ints, e, f) in rw none refl

none_left : (d q r x : ℤ) → d *ℤ q +ℤ r ≡ x → is_zero r ≡ true → x ≡ d *ℤ q
none_left d q (pos zero) x e h = omega (arith, ints, e)
none_left d q _ x e h = absurd cc

divides_multiple : (d x : ℤ) → pos 1 ≤ℤ d → Multiple d x → divides d x ≡ true
divides_multiple (negsuc n) x h m = absurd (omega (arith, ints))
divides_multiple (pos n) x h m =
    zero_left (pos n) (floor_div x (pos n)) (floor_mod x (pos n)) x (floor_mod-law x n (omega (arith, ints, h))) (floor-exact x n (omega (arith, ints, h)) m)

multiple_divided : (d x : ℤ) → pos 1 ≤ℤ d → divides d x ≡ true → Multiple d x
multiple_divided (negsuc n) x h e = absurd (omega (arith, ints))
multiple_divided (pos n) x h e = record {
  times = floor_div x (pos n);
  is = none_left (pos n) (floor_div x (pos n)) (floor_mod x (pos n)) x (floor_mod-law x n (omega (arith, ints, h))) e;
}

-- where d divides x, so do their quotients by a divisor of d
quotients_divide : (g d x : ℤ) → pos 1 ≤ℤ g → pos 1 ≤ℤ d → Multiple g d → pos 1 ≤ℤ floor_div d g → divides d x ≡ true → divides (floor_div d g) (floor_div x g) ≡ true
quotients_divide (negsuc n) d x h positive m some e = absurd (omega (arith, ints))
quotients_divide (pos n) d x h positive m some e =
    let is = multiple_divided d x positive e in
    let exact = floor-exact d n (omega (arith, ints, h)) m in
    let q = floor_div d (pos n) *ℤ is.times in
    let whole : x ≡ pos n *ℤ (floor_div d (pos n) *ℤ is.times) = is.is ∙ ap (λ k. k *ℤ is.times) exact ∙ *ℤ_assoc (pos n) (floor_div d (pos n)) is.times in
    let one : floor_div x (pos n) ≡ floor_div d (pos n) *ℤ is.times = floor-unique x q n (omega (arith, ints, h)) (omega (arith, ints, whole)) (omega (arith, ints, whole, h)) in
    divides_multiple (floor_div d (pos n)) (floor_div x (pos n)) some (record { times = is.times; is = one })

whole_one : (d : ℤ) (ts : List ℤ) → length ts ≡ 1 → divides d (constant ts) ≡ true → is_whole d ts ≡ true
whole_one d (t ∷ []) h e = rw e refl
whole_one d _ h e = absurd (omega arith)

-- a row is whole where its denominator divided its constant before
pub whole_divided : (r : Row) → pos 1 ≤ℤ r.den → length r.constant ≡ 1 → divides r.den (constant r.constant) ≡ true → is_whole (divided r).den (divided r).constant ≡ true
whole_divided r h one e =
    let g = divisor r in
    let bounds = gcd_between r.den (gcd (gcd_of r.coefs) (gcd_of r.constant)) h in
    let some = quotient_positive r.den g bounds.0 bounds.1 in
    whole_one (floor_div r.den g) (floor_divided g r.constant) (length-map r.constant (λ x. floor_div x g) ∙ one)
    (ap (divides (floor_div r.den g)) (constant_divided g r.constant one)
    ∙ quotients_divide g r.den (constant r.constant) bounds.0 h (gcd-divides r.den (gcd (gcd_of r.coefs) (gcd_of r.constant))).0 some e)

-- ---- a row with another put in

pub constant_combined : (a : ℤ) (us : List ℤ) (b : ℤ) (vs : List ℤ) → length us ≡ 1 → length vs ≡ 1 → constant (combine a us b vs) ≡ a *ℤ entry us 0 -ℤ b *ℤ entry vs 0
constant_combined a (u ∷ []) b (v ∷ []) h k = refl
constant_combined a _ b _ h k = absurd (omega arith)

module _ (n : ℕ) (p : Row) (c : ℕ) (i : Row) (pivot : IsPivot n 0 p c) (row : IsShortReduced n 0 i) where
  abbrev a : ℤ
  a = entry p.coefs c

  abbrev b : ℤ
  b = entry i.coefs c

  pub den_put_in : pos 1 ≤ℤ (substituted p c i).den
  den_put_in = some_product i.den a row.row.positive pivot.candidate.positive

  pub constant_put_in : constant (substituted p c i).constant ≡ a *ℤ entry i.constant 0 -ℤ b *ℤ entry p.constant 0
  constant_put_in = constant_combined a i.constant b p.constant row.row.constant pivot.row.row.constant

  one_put_in : length (substituted p c i).constant ≡ 1
  one_put_in = length-combine a i.constant b p.constant (row.row.constant ∙ sym pivot.row.row.constant) ∙ row.row.constant

  coefs_put_in : length (substituted p c i).coefs ≡ n
  coefs_put_in = length-set _ c _ ∙ length-combine a i.coefs b p.coefs (row.row.coefs ∙ sym pivot.row.row.coefs) ∙ row.row.coefs

  pub own_coef_put_in : entry (substituted p c i).coefs c ≡ b *ℤ p.den
  own_coef_put_in =
      let long = length-combine a i.coefs b p.coefs (row.row.coefs ∙ sym pivot.row.row.coefs) in
      get_or-set_same (combine a i.coefs b p.coefs) c (b *ℤ p.den) (pos 0) (omega (arith, long, row.row.coefs, pivot.candidate.column))

  pub coef_put_in : (k : ℕ) → k ≢ c → entry (substituted p c i).coefs k ≡ a *ℤ entry i.coefs k -ℤ b *ℤ entry p.coefs k
  coef_put_in k other =
      get_or-set_other (combine a i.coefs b p.coefs) c k (b *ℤ p.den) (pos 0) other
      ∙ entry-combine a i.coefs b p.coefs k (row.row.coefs ∙ sym pivot.row.row.coefs)

  pub nonneg_after : is_nonneg (constant (eliminated p c i).constant) ≡ is_nonneg (constant (substituted p c i).constant)
  nonneg_after = nonneg_divided (substituted p c i) den_put_in one_put_in

  pub positive_after : (k : ℕ) → k < n → is_positive (entry (substituted p c i).coefs k) ≡ false → is_positive (entry (eliminated p c i).coefs k) ≡ false
  positive_after k h = positive_divided (substituted p c i) k den_put_in (omega (arith, h, coefs_put_in))

  pub whole_after : divides (substituted p c i).den (constant (substituted p c i).constant) ≡ true → is_whole (eliminated p c i).den (eliminated p c i).constant ≡ true
  whole_after = whole_divided (substituted p c i) den_put_in one_put_in

  stays : entry i.coefs c ≡ pos 0 → eliminated p c i ≡ i
  stays none = sym (eliminated_none n 0 p c i pivot.row.row row.row pivot.candidate.positive none row.reduced)

  pub nonneg_stays : entry i.coefs c ≡ pos 0 → is_nonneg (constant (eliminated p c i).constant) ≡ is_nonneg (constant i.constant)
  nonneg_stays none = ap (λ (r : Row). is_nonneg (constant r.constant)) (stays none)

  pub whole_stays : entry i.coefs c ≡ pos 0 → is_whole (eliminated p c i).den (eliminated p c i).constant ≡ is_whole i.den i.constant
  whole_stays none = ap (λ (r : Row). is_whole r.den r.constant) (stays none)

  pub coefs_after : length (eliminated p c i).coefs ≡ n
  coefs_after = length-map (substituted p c i).coefs (λ x. floor_div x (divisor (substituted p c i))) ∙ coefs_put_in

-- ---- all numbers, all rows

pub one_more : (P : ℕ → Type 0) (n k : ℕ) → ((j : ℕ) → j < n → P j) → P n → k < n + 1 → P k
one_more P zero zero all here lt = here
one_more P zero (suc k) all here lt = absurd (omega arith)
one_more P (suc n) zero all here lt = all 0 (omega arith)
one_more P (suc n) (suc k) all here lt = one_more (λ (j : ℕ). P (suc j)) n k (λ j h. all (suc j) (omega arith)) here (omega arith)

pub none_positive : (cs : List ℤ) → ((k : ℕ) → k < length cs → is_positive (entry cs k) ≡ false) → list_any is_positive cs ≡ false
none_positive [] all = refl
none_positive (x ∷ cs) all = rw (all 0 (omega arith)) (none_positive cs (λ k h. all (suc k) (omega arith)))

-- one row more of rows that are all changed
module _ (f : Row → Row) (rows : List Row) (i : ℕ) (h : i < length rows) where
  mapped_here : row_at (map f rows) i ≡ f (row_at rows i)
  mapped_here = get_or-map f rows i (form_row 0 []) (form_row 0 []) h

  drop_mapped : drop i (map f rows) ≡ f (row_at rows i) ∷ drop (i + 1) (map f rows)
  drop_mapped =
      drop_more (map f rows) i (form_row 0 []) (omega (arith, h, length-map rows f)) ∙ ap (λ (r : Row). r ∷ drop (i + 1) (map f rows)) mapped_here

  pub negative_here : is_nonneg (constant (f (row_at rows i)).constant) ≡ false → negative_from i (drop i (map f rows)) ≡ Some i
  negative_here e = ap (negative_from i) drop_mapped ∙ rw e refl

  pub negative_next : is_nonneg (constant (f (row_at rows i)).constant) ≡ true → negative_from i (drop i (map f rows)) ≡ negative_from (i + 1) (drop (i + 1) (map f rows))
  negative_next e = ap (negative_from i) drop_mapped ∙ rw e refl

  pub fraction_next : (n : ℕ) → i < n → n ≤ length rows → is_whole (f (row_at rows i)).den (f (row_at rows i)).constant ≡ true
      → fraction_from i (drop i (take n (map f rows))) ≡ fraction_from (i + 1) (drop (i + 1) (take n (map f rows)))
  fraction_next n lt le e =
      let front = take n (map f rows) in
      let long : length (take n (map f rows)) ≡ n = length-take-le n (map f rows) (omega (arith, le, length-map rows f)) in
      let here : row_at (take n (map f rows)) i ≡ f (row_at rows i) = get_or-take n (map f rows) i (form_row 0 []) lt ∙ mapped_here in
      ap (fraction_from i) (drop_more front i (form_row 0 []) (omega (arith, lt, long)) ∙ ap (λ (r : Row). r ∷ drop (i + 1) (take n (map f rows))) here)
      ∙ rw e refl
