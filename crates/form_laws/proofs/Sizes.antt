-- Where a form's norm times the greatest number of the basis is below 2^63, the row that the form makes is short, and each listed number of
-- its pivots and comparisons fits.
use Rattle.form_laws.proofs.Words.{◌≡◌, ◌∙◌, refl, ap, sym, ℕ, zero, suc, ◌+◌, ◌*◌, ◌^◌, ◌<◌, ◌≤◌, ℤ, pos, ◌+ℤ◌, ◌*ℤ◌, ◌≤ℤ◌, ◌<ℤ◌, unsigned_abs, arith, Bool, true, false, ◌&&◌, List, [], ◌∷◌, ◌++◌, length, take, drop, ints, unsigned_abs-mul, mul-le, flat_map, if◌then◌else◌, floor_div, fits, same_number, entry, dot, all_fit, Row, divided, row_at, other_rows, eliminated_listed, pivot_listed, cross_products, up_to_difference, is_better, best_listed, entering_of_listed, entering_listed, candidates, entry-scale, length_floors, divisor, IsShort, IsShortRow, short_eliminated, coef, place, over, combination, by_form, Kept, Form, Whole, made, rows_by, norm, RowWithin, AllWithin, IsBounded, AllShort, KeptShort, map, All, get_or_default}
use Rattle.pip_model.proofs.Fitting.{fit_join}
use Rattle.row_laws.proofs.Short.{short_fits}
use Rattle.form_laws.proofs.Divided.{undivided}
use Rattle.form_laws.proofs.Turning.{entry_first, length_counted}

-- ---- sizes

pub size_sum : (x y : ℤ) → unsigned_abs (x +ℤ y) ≤ unsigned_abs x + unsigned_abs y
size_sum x y = omega (arith, ints)

pub size_product : (x y : ℤ) (m : ℕ) → unsigned_abs y ≤ m → unsigned_abs (x *ℤ y) ≤ unsigned_abs x * m
size_product x y m h = rw (unsigned_abs-mul x y) (mul-le (unsigned_abs x) (unsigned_abs y) (unsigned_abs x) m (omega arith) h)

pub spread : (a b m : ℕ) → (a + b) * m ≡ a * m + b * m
spread a b m = grind arith

pub entry_norm : (f : List ℤ) (k : ℕ) → unsigned_abs (entry f k) ≤ norm f
entry_norm (z ∷ f) (suc k) = omega (arith, entry_norm f k)
entry_norm _ _ = omega arith

pub zero_product : (L : ℤ) → unsigned_abs (pos 0 +ℤ L *ℤ pos 0) ≤ 0
zero_product L = omega (arith, ints)

-- one number of a combination, and what the form adds of its own
pub own_within : (m : ℕ) (L : ℤ) (f : List ℤ) (j : ℕ) → unsigned_abs L ≤ m → unsigned_abs (L *ℤ entry f j) ≤ norm f * m
own_within m L f j h = rw (unsigned_abs-mul L (entry f j)) (omega (arith, mul-le (unsigned_abs L) (unsigned_abs (entry f j)) m (norm f) h (entry_norm f j), turn m (norm f)))
  where
    turn : (a b : ℕ) → a * b ≡ b * a
    turn a b = grind arith

pub three : (a d o : ℤ) → unsigned_abs (a +ℤ d +ℤ o) ≤ unsigned_abs a + unsigned_abs (d +ℤ o)
three a d o = omega (arith, ints)

pub nothing_before : (x : ℤ) → pos 0 +ℤ x ≡ x
nothing_before x = omega (arith, ints)

module _ (m : ℕ) (L : ℤ) (small : unsigned_abs L ≤ m) (part : Row → ℤ) (bound : (q : ℤ) (r : Row) → RowWithin m q r → unsigned_abs (q *ℤ part r) ≤ m) where
  pub dot_within : (f : List ℤ) (basis : List Row) → AllWithin m L basis → unsigned_abs (dot f (over L part basis)) ≤ norm f * m
  dot_within [] basis all = omega arith
  dot_within (z ∷ f) [] all = omega arith
  dot_within (z ∷ f) (r ∷ basis) all =
      let q = floor_div L r.den *ℤ part r in
      omega (arith, size_sum (z *ℤ q) (dot f (over L part basis)), size_product z q m (bound (floor_div L r.den) r all.0), dot_within f basis all.1, spread (unsigned_abs z) (norm f) m)

  pub own_dot_within : (f : List ℤ) (basis : List Row) (j : ℕ) → AllWithin m L basis → unsigned_abs (dot f (over L part basis) +ℤ L *ℤ entry f (length basis + j)) ≤ norm f * m
  own_dot_within [] basis j all = omega (arith, zero_product L)
  own_dot_within (z ∷ f) [] j all =
      let e : 0 + j ≡ j = omega arith in
      rw (e, nothing_before (L *ℤ entry (z ∷ f) j)) (own_within m L (z ∷ f) j small)
  own_dot_within (z ∷ f) (r ∷ basis) j all =
      let q = floor_div L r.den *ℤ part r in
      let e : suc (length basis) + j ≡ suc (length basis + j) = omega arith in
      rw e (omega (
        arith,
        three (z *ℤ q) (dot f (over L part basis)) (L *ℤ entry f (length basis + j)),
        size_product z q m (bound (floor_div L r.den) r all.0),
        own_dot_within f basis j all.1,
        spread (unsigned_abs z) (norm f) m,
      ))

-- ---- the combination, and the row

pub all_short : (us : List ℤ) → ((k : ℕ) → k < length us → IsShort (entry us k)) → All IsShort us
all_short us h k d lt = rw (get_or_default us k d (pos 0) lt) (h k lt)

smaller : (g : ℕ) (x y : ℤ) → 0 < g → pos g *ℤ x ≡ y → unsigned_abs x ≤ unsigned_abs y
smaller g x y h e =
    omega (arith, mul-le 1 (unsigned_abs x) g (unsigned_abs x) h (omega arith), (ap unsigned_abs (sym e) ∙ (unsigned_abs-mul (pos g) x)))

-- the numbers of a row over n columns and w places are below 2^63, place by place
record Places (n w : ℕ) (r : Row) : Type 0 where
  den : IsShort r.den
  coefs : (k : ℕ) → k < n → IsShort (coef k r)
  places : (k : ℕ) → k < w + 1 → IsShort (place k r)

divided_short : (n w : ℕ) (r : Row) → pos 1 ≤ℤ r.den → length r.coefs ≡ n → length r.constant ≡ w + 1 → Places n w r → IsShortRow (divided r)
divided_short n w r h coefs places short =
    let u = undivided r h in
    record {
      den = omega (arith, (smaller u.by (divided r).den r.den u.positive (ap (λ (s : Row). s.den) u.is)), short.den);
      coefs = all_short (divided r).coefs (λ k lt.
          omega (
            arith,
            smaller u.by (coef k (divided r)) (coef k r) u.positive (sym (entry-scale (pos u.by) (divided r).coefs k) ∙ ap (coef k) u.is),
            short.coefs k (omega (arith, lt, length_floors (divisor r) r.coefs, coefs)),
          ));
      constant = all_short (divided r).constant (λ k lt.
          omega (
            arith,
            smaller u.by (place k (divided r)) (place k r) u.positive (sym (entry-scale (pos u.by) (divided r).constant k) ∙ ap (place k) u.is),
            short.places k (omega (arith, lt, length_floors (divisor r) r.constant, places)),
          ));
    }

-- the law
pub short_by_form : (n w m : ℕ) (L : ℤ) (basis : List Row) (f : List ℤ) → length basis ≡ n → pos 0 <ℤ L → IsBounded m L basis f → IsShortRow (by_form n w L basis f)
short_by_form n w m L basis f e some h =
    let r = combination n w L basis f in
    divided_short n w r (omega (arith, ints, some)) (length_counted (λ k. dot f (over L (coef k) basis)) n) (length_counted (λ k. dot f (over L (place k) basis) +ℤ L *ℤ entry f (n + k)) (w + 1))
    (record {
      den = omega (arith, h.common, h.basis_short);
      coefs = λ k lt. rw (entry_first (λ j. dot f (over L (coef j) basis)) n k lt)
          (omega (arith, dot_within m L h.common (coef k) (λ q r within. within.coefs k) f basis h.rows, h.form_short));
      places = λ k lt. rw (entry_first (λ j. dot f (over L (place j) basis) +ℤ L *ℤ entry f (n + j)) (w + 1) k lt, sym e)
          (omega (arith, own_dot_within m L h.common (place k) (λ q r within. within.places k) f basis k h.rows, h.form_short));
    })

-- ---- the listed numbers of a pivot

short_take : (n k : ℕ) (rows : List Row) → AllShort n rows → AllShort n (take k rows)
short_take n (suc k) (r ∷ rows) h = (h.0, h.1, short_take n k rows h.2)
short_take n _ _ h = tt

short_drop : (n k : ℕ) (rows : List Row) → AllShort n rows → AllShort n (drop k rows)
short_drop n zero rows h = h
short_drop n (suc k) [] h = tt
short_drop n (suc k) (r ∷ rows) h = short_drop n k rows h.2

pub short_join : (n : ℕ) (rows more : List Row) → AllShort n rows → AllShort n more → AllShort n (rows ++ more)
short_join n [] more h k = k
short_join n (r ∷ rows) more h k = (h.0, h.1, short_join n rows more h.2 k)

short_at : (n : ℕ) (rows : List Row) (r : ℕ) → r < length rows → AllShort n rows → IsShortRow (row_at rows r) × (length (row_at rows r).coefs ≡ n)
short_at n [] r lt h = absurd (omega arith)
short_at n (x ∷ rows) zero lt h = (h.0, h.1)
short_at n (x ∷ rows) (suc r) lt h = short_at n rows r (omega arith) h.2

pub flat_fit : (n : ℕ) (p : Row) (c : ℕ) (rows : List Row) → IsShortRow p → length p.coefs ≡ n → c < n → AllShort n rows → all_fit (flat_map (eliminated_listed p c) rows) ≡ true
flat_fit n p c [] hp e lt h = refl
flat_fit n p c (r ∷ rows) hp e lt h =
    fit_join (eliminated_listed p c r) (flat_map (eliminated_listed p c) rows) (short_eliminated p c r hp h.0 (omega (arith, lt, e)) (h.1 ∙ sym e)) (flat_fit n p c rows hp e lt h.2)

pub pivot_fits : (n : ℕ) (rows : List Row) (r c : ℕ) → r < length rows → c < n → AllShort n rows → all_fit (pivot_listed rows r c) ≡ true
pivot_fits n rows r c lt inside h =
    let p = short_at n rows r lt h in
    flat_fit n (row_at rows r) c (other_rows rows r) p.0 p.1 inside (short_join n (take r rows) (drop (r + 1) rows) (short_take n r rows h) (short_drop n (r + 1) rows h))

-- ---- and of a comparison

up_to_fit : (xs ys : List ℤ) → all_fit xs ≡ true → all_fit ys ≡ true → all_fit (up_to_difference xs ys) ≡ true
up_to_fit [] ys h k = refl
up_to_fit (x ∷ xs) [] h k = refl
up_to_fit (x ∷ xs) (y ∷ ys) h k =
    let a = both (fits x) (all_fit xs) h in
    let b = both (fits y) (all_fit ys) k in
    rw (a.0, b.0) (by (same_number x y) (up_to_fit xs ys a.1 b.1))
  where
    both : (s t : Bool) → (s && t) ≡ true → (s ≡ true) × (t ≡ true)
    both true t e = (refl, e)
    both false t e = absurd cc

    by : (t : Bool) → all_fit (up_to_difference xs ys) ≡ true → all_fit (if t then up_to_difference xs ys else []) ≡ true
    by true e = e
    by false e = refl

short_entry : (xs : List ℤ) (k : ℕ) → All IsShort xs → IsShort (entry xs k)
short_entry [] k h = omega arith
short_entry (x ∷ xs) zero h = h 0 (pos 0) (omega arith)
short_entry (x ∷ xs) (suc k) h = short_entry xs k (λ j d lt. h (suc j) d (omega arith))

products_fit : (n : ℕ) (u : List Row) (p : Row) (k b : ℕ) → IsShortRow p → AllShort n u → all_fit (cross_products u p k b) ≡ true
products_fit n [] p k b hp all = refl
products_fit n (r ∷ u) p k b hp all =
    rw (short_fits (entry r.coefs k) (entry p.coefs b) (short_entry r.coefs k (all.0).coefs) (short_entry p.coefs b hp.coefs))
    (products_fit n u p k b hp all.2)

best_fit : (n : ℕ) (u : List Row) (p : Row) (b : ℕ) (ks : List ℕ) → IsShortRow p → AllShort n u → all_fit (best_listed u p b ks) ≡ true
best_fit n u p b [] hp all = refl
best_fit n u p b (k ∷ ks) hp all =
    fit_join (up_to_difference (cross_products u p k b) (cross_products u p b k)) (best_listed u p (if is_better u p k b then k else b) ks)
    (up_to_fit (cross_products u p k b) (cross_products u p b k) (products_fit n u p k b hp all) (products_fit n u p b k hp all))
    (best_fit n u p (if is_better u p k b then k else b) ks hp all)

entering_of_fit : (n : ℕ) (u : List Row) (p : Row) (ks : List ℕ) → IsShortRow p → AllShort n u → all_fit (entering_of_listed u p ks) ≡ true
entering_of_fit n u p [] hp all = refl
entering_of_fit n u p (b ∷ ks) hp all = best_fit n u p b ks hp all

pub entering_fits : (n : ℕ) (rows : List Row) (r : ℕ) → r < length rows → AllShort n rows → all_fit (entering_listed rows r) ≡ true
entering_fits n rows r lt h =
    let p = short_at n rows r lt h in
    entering_of_fit n (take (length (row_at rows r).coefs) rows) (row_at rows r) (candidates (row_at rows r)) p.0 (short_take n (length (row_at rows r).coefs) rows h)

-- ---- all rows that are made

by_form_columns : (n w : ℕ) (L : ℤ) (basis : List Row) (f : List ℤ) → length (by_form n w L basis f).coefs ≡ n
by_form_columns n w L basis f = length_floors (divisor (combination n w L basis f)) (combination n w L basis f).coefs ∙ length_counted (λ k. dot f (over L (coef k) basis)) n

module _ (n w m : ℕ) (L : ℤ) (basis : List Row) (e : length basis ≡ n) (some : pos 0 <ℤ L) (common : unsigned_abs L ≤ m) (basis_short : m < 2 ^ 63) (rows : AllWithin m L basis) where
  kept_short : (kept : List Kept) → KeptShort n m L basis kept → AllShort n (map (made n w L basis) kept)
  kept_short [] h = tt
  kept_short (Form f ∷ kept) h =
      (short_by_form n w m L basis f e some (record { common = common; basis_short = basis_short; rows = rows; form_short = h.0 }), by_form_columns n w L basis f, kept_short kept h.1)
  kept_short (Whole r ∷ kept) h = (h.0, h.1, kept_short kept h.2)

  pub rows_short : (kept : List Kept) → AllShort n basis → KeptShort n m L basis kept → AllShort n (rows_by n w L basis kept)
  rows_short kept h k = short_join n basis (map (made n w L basis) kept) h (kept_short kept k)
