-- A row that the pivot's row is put into, number after number.
use Rattle.short_row.proofs.Words.{rules, All-cons, get_or-take, All-same, take-append-drop, length-map, length-set, take_at, drop_at, true, false, content-divided, IsShortRow, is_short_row, IsDenominatorOf, Some, None, begun_coefs, begun_constant, begun_row, IsBegun, floor_div, floor_divided, gcd_assoc, ◌≡◌, refl, ap, sym, ◌∙◌, subst, ℕ, zero, suc, ◌+◌, ◌-◌, ◌<◌, ◌≤◌, ℤ, pos, ◌≤ℤ◌, ◌*ℤ◌, ◌-ℤ◌, Bool, List, [], ◌∷◌, ◌++◌, length, take, drop, get_or, arith, ints, All, All-drop, All-take, All-append, length-append, length-take, length-drop, slice_set, gcd, gcd_of, combine, entry, Row, divided, eliminated, entry-combine, row_of_numbers, row_from, IsShort, places_of, IsShortReduced, IsTurned, IsShortDivisor, finished, combined, combined_step, set-get_or, content, AreLowest, substituted_by, eliminated-lowest, divisor-lowest, take_combine, drop_combine, take-map, drop-map, divided_row, divided_one, *ℤ_left_comm, AreTerms, BegunRow, some_product, own_row, drop-set-lt, take-set-lt}
use Rattle.std.proofs.Math.IntN.{*ℤ_comm}
use Rattle.affine_forms.specs.Checks.{Fits}
use Rattle.row_laws.specs.Steps.{IsElimination}
use Rattle.short_row.specs.Put.{IsPut, IsTurning, put_numbers, put_row}
use Rattle.short_row.specs.declared.put.PutRow.{PutRow}
use Rattle.short_row.proofs.Finished.{finished_length, finished_all, gcd_of_append}
use Rattle.short_row.proofs.ShortParts.{divided_positive, short_row, row_join}

-- ---- the entry in the column

none_there : (h x y a b : ℤ) → a ≡ h *ℤ x → b ≡ h *ℤ y → x *ℤ b -ℤ y *ℤ a ≡ pos 0
none_there h x y a b e f = rw (e, f) (omega (arith, ints, (*ℤ_left_comm x h y), (*ℤ_left_comm y h x), (ap (λ z. h *ℤ z) (*ℤ_comm x y))))

-- ---- a row that is begun

both_short : (n : ℕ) (zs : List ℤ) → All IsShort (take n zs) → All IsShort (drop n zs) → All IsShort zs
both_short n zs front back = All-same IsShort zs (take n zs ++ drop n zs) (sym (take-append-drop n zs)) (All-append IsShort (take n zs) (drop n zs) front back)

pub turning_terms : (n : ℕ) (p : List ℤ) (c : ℕ) (old : List ℤ) (x y : ℤ) → IsTurning n p c old → IsShort x → IsShort y → AreTerms x (drop 1 old) y (drop 1 p)
turning_terms n p c old x y h a b = record {
  lengths = simp length-drop (omega (arith, h.size));
  row_factor = a;
  row = both_short n (drop 1 old) h.row.short.coefs h.row.short.constant;
  pivot_factor = b;
  pivot = both_short n (drop 1 p) h.pivot.row.short.coefs h.pivot.row.short.constant;
}

-- the entry in the column
pub entry_there : (n c : ℕ) (zs : List ℤ) → c < n → get_or zs (c + 1) (pos 0) ≡ entry (row_of_numbers n zs).coefs c
entry_there n c [] h = none_at (c + 1) ∙ sym (get_or-take n [] c (pos 0) h ∙ none_at c)
  where
    none_at : (k : ℕ) → get_or {A = ℤ} [] k (pos 0) ≡ pos 0
    none_at zero = refl
    none_at (suc k) = refl
entry_there n c (z ∷ zs) h = let g : c + 1 ≡ suc c = omega arith in rw g (sym (get_or-take n zs c (pos 0) h))

pub low_there : (n c : ℕ) (p old : List ℤ) (a b x y : ℤ) → a ≡ entry (row_of_numbers n p).coefs c → b ≡ entry (row_of_numbers n old).coefs c → AreLowest a b x y
    → AreLowest (entry (row_of_numbers n p).coefs c) (entry (row_of_numbers n old).coefs c) x y
low_there n c p old a b x y e f low = subst (λ z. AreLowest z (entry (row_of_numbers n old).coefs c) x y) e (subst (λ z. AreLowest a z x y) f low)

module _ (n : ℕ) (w : PutRow) (p old now : List ℤ) (h : IsTurning n p w.column old)
    (low : AreLowest (entry (row_of_numbers n p).coefs w.column) (entry (row_of_numbers n old).coefs w.column) w.by.of_row w.by.of_pivot)
    (some : IsShortDivisor w.by.of_row) (short : IsShort w.by.of_pivot)
    (den : entry now 0 ≡ entry old 0) (size : length now ≡ length old) (shorts : All IsShort (drop 1 now)) (made : w.made + 1 ≤ length old)
    (value : finished w.by.of_row (drop 1 now) w.by.of_pivot (drop 1 p) w.made ≡ combine w.by.of_row (drop 1 old) w.by.of_pivot (drop 1 p)) where
  abbrev pivot_row : Row
  pivot_row = row_of_numbers n p

  abbrev old_row : Row
  old_row = row_of_numbers n old

  pub put_is : put_row n w p now ≡ substituted_by w.by.of_row w.by.of_pivot pivot_row w.column old_row
  put_is =
      rw (den, value, sym (take_combine w.by.of_row w.by.of_pivot (drop 1 old) (drop 1 p) n), sym (drop_combine w.by.of_row w.by.of_pivot (drop 1 old) (drop 1 p) n)) refl

  step : IsElimination pivot_row w.column old_row
  step = record {
    pivot = record {
      row = own_row n _ pivot_row h.pivot.row.row;
      column = omega (arith, h.pivot.candidate.column, h.pivot.row.row.coefs);
      positive = h.pivot.candidate.positive;
    };
    row = own_row n _ old_row h.row.row;
    coefs = h.row.row.coefs ∙ sym h.pivot.row.row.coefs;
    constant = h.row.row.constant ∙ sym h.pivot.row.row.constant;
  }

  pub put_content : content (put_row n w p now)
      ≡ gcd (gcd (entry old 0) (entry p 0)) (gcd (gcd_of (put_row n w p now).coefs) (gcd_of (put_row n w p now).constant))
  put_content =
      subst (λ (r : Row). content r ≡ gcd (gcd (entry old 0) (entry p 0)) (gcd (gcd_of r.coefs) (gcd_of r.constant))) (sym put_is)
      (divisor-lowest pivot_row w.column old_row w.by.of_row w.by.of_pivot step h.pivot.row.reduced h.row.reduced low)

  zero_there : entry (take n (put_numbers w p now)) w.column ≡ pos 0
  zero_there =
      ap (λ xs. entry (take n xs) w.column) value
      ∙ ap (λ xs. entry xs w.column) (sym (take_combine w.by.of_row w.by.of_pivot (drop 1 old) (drop 1 p) n))
      ∙ entry-combine w.by.of_row old_row.coefs w.by.of_pivot pivot_row.coefs w.column (h.row.row.coefs ∙ sym h.pivot.row.row.coefs)
      ∙ none_there (pos low.divisor) w.by.of_row w.by.of_pivot (entry pivot_row.coefs w.column) (entry old_row.coefs w.column) low.first low.second

  pub put_begun : IsPut n w p now
  put_begun = record {
    size = h.size ∙ sym size;
    some = omega (arith, size, h.some);
    den = subst IsShortDivisor (sym den) (record { positive = h.row.row.positive; short = h.row.short.den });
    pivot_den = record { positive = h.pivot.row.row.positive; short = h.pivot.row.short.den };
    factor = some.positive;
    column = h.pivot.candidate.column;
    terms = record {
      lengths = simp length-drop (omega (arith, size, h.size));
      row_factor = some.short;
      row = shorts;
      pivot_factor = short;
      pivot = both_short n (drop 1 p) h.pivot.row.short.coefs h.pivot.row.short.constant;
    };
    made = omega (arith, made, size);
    zero = zero_there;
    content = ap (λ z. z) put_content ∙ ap (λ z. gcd (gcd z (entry p 0)) (gcd (gcd_of (put_row n w p now).coefs) (gcd_of (put_row n w p now).constant))) (sym den);
  }

  put_eliminated : eliminated pivot_row w.column old_row ≡ divided (put_row n w p now)
  put_eliminated =
      eliminated-lowest pivot_row w.column old_row w.by.of_row w.by.of_pivot h.pivot.candidate.positive h.row.row.positive low ∙ ap divided (sym put_is)

  pub put_turned : (short_row : Bool) (zs : List ℤ) → IsTurned n (divided (put_row n w p now)) short_row zs → IsTurned n (eliminated pivot_row w.column old_row) short_row zs
  put_turned short_row zs t = subst (λ (r : Row). IsTurned n r short_row zs) (sym put_eliminated) t

-- ---- further numbers are made

one_more : (k : ℕ) → k + 1 ≡ suc k
one_more k = omega arith

finished_append : (x y : ℤ) (front rest others ys : List ℤ) (m k : ℕ) → length front ≡ m → length (front ++ rest) ≡ length ys → others ≡ drop m ys
    → finished x (front ++ rest) y ys (m + k) ≡ front ++ finished x rest y others k
finished_append x y [] rest others ys zero k e same o = let g : zero + k ≡ k = omega arith in rw (g, o) refl
finished_append x y [] rest others ys (suc m) k e same o = absurd (omega arith)
finished_append x y (z ∷ front) rest others ys zero k e same o = absurd (omega arith)
finished_append x y (z ∷ front) rest others [] (suc m) k e same o = absurd (omega arith)
finished_append x y (z ∷ front) rest others (u ∷ ys) (suc m) k e same o =
    let g : suc m + k ≡ suc (m + k) = omega arith in
    rw g (ap (λ zs. z ∷ zs) (finished_append x y front rest others ys m k (omega arith) (omega arith) o))

-- the numbers behind the first m + 1
pub further : (x y : ℤ) (m k : ℕ) (now p front rest rest_now others : List ℤ) → front ≡ take (m + 1) now → rest ≡ drop (m + 1) now → others ≡ drop (m + 1) p → m + 1 ≤ length now → length now ≡ length p
    → length rest_now ≡ length rest → finished x rest_now y others k ≡ combine x rest y others
    → (finished x (drop 1 (front ++ rest_now)) y (drop 1 p) (m + k) ≡ finished x (drop 1 now) y (drop 1 p) m) × (entry (front ++ rest_now) 0 ≡ entry now 0)
further x y m k [] p front rest rest_now others e f g within same size value = absurd (omega (arith, within))
further x y m k (d ∷ now) [] front rest rest_now others e f g within same size value = absurd (omega arith)
further x y m k (d ∷ now) (q ∷ p) front rest rest_now others e f g within same size value =
    let front_is : front ≡ d ∷ take m now = rw (one_more m) at e in
    let rest_is : rest ≡ drop m now = rw (one_more m) at f in
    let others_is : others ≡ drop m p = rw (one_more m) at g in
    let front_size : length (take m now) ≡ m = simp length-take (omega (arith, within)) in
    let rest_size : length rest ≡ length now - m = ap length rest_is ∙ length-drop m now in
    let whole : length (take m now ++ rest_now) ≡ length p = simp length-append (omega (arith, front_size, rest_size, size, within, same)) in (
      ap (λ zs. finished x (drop 1 (zs ++ rest_now)) y p (m + k)) front_is
          ∙ finished_append x y (take m now) rest_now others p m k front_size whole others_is
          ∙ ap (λ zs. take m now ++ zs) (value ∙ rw (rest_is, others_is) refl),
      ap (λ zs. entry (zs ++ rest_now) 0) front_is,
    )

-- a row as it was begun is the same with further numbers made
pub same_put : (n : ℕ) (w v : PutRow) (p old now : List ℤ) → v.by.of_row ≡ w.by.of_row → v.by.of_pivot ≡ w.by.of_pivot → v.column ≡ w.column
    → put_numbers v p now ≡ put_numbers w p old → entry now 0 ≡ entry old 0 → put_row n v p now ≡ put_row n w p old
same_put n w v p old now a b c e f = rw (e, f, a, b, c) refl

pub further_put : (n : ℕ) (w v : PutRow) (p old now : List ℤ) → IsPut n w p old → v.by.of_row ≡ w.by.of_row → v.by.of_pivot ≡ w.by.of_pivot → v.column ≡ w.column
    → put_numbers v p now ≡ put_numbers w p old → entry now 0 ≡ entry old 0 → length now ≡ length old → All IsShort (drop 1 now) → v.made + 1 ≤ length now → IsPut n v p now
further_put n w v p old now h a b c e f size shorts made =
    let same = same_put n w v p old now a b c e f in record {
      size = h.size ∙ sym size;
      some = omega (arith, size, h.some);
      den = subst IsShortDivisor (sym f) h.den;
      pivot_den = h.pivot_den;
      factor = subst (λ z. pos 1 ≤ℤ z) (sym a) h.factor;
      column = omega (arith, c, h.column);
      terms = record {
        lengths = simp length-drop (omega (arith, size, h.size));
        row_factor = subst IsShort (sym a) h.terms.row_factor;
        row = shorts;
        pivot_factor = subst IsShort (sym b) h.terms.pivot_factor;
        pivot = h.terms.pivot;
      };
      made = made;
      zero = rw (e, c) h.zero;
      content =
          subst (λ (r : Row). content r ≡ gcd (gcd (entry now 0) (entry p 0)) (gcd (gcd_of r.coefs) (gcd_of r.constant))) (sym same)
          (h.content ∙ ap (λ z. gcd (gcd z (entry p 0)) (gcd (gcd_of (put_row n w p old).coefs) (gcd_of (put_row n w p old).constant))) (sym f));
    }

-- ---- the coefficients and the constant of a row that is begun

none_finished : (x y : ℤ) (k : ℕ) → finished x [] y [] k ≡ []
none_finished x y zero = refl
none_finished x y (suc k) = refl

-- of k numbers i are coefficients and j constants
pub put_split : (x y : ℤ) (n k i j : ℕ) (now p : List ℤ) → length now ≡ length p → i + j ≡ k → i ≤ n → (i < n → j ≡ 0)
    → finished x (take n now) y (take n p) i ++ finished x (drop n now) y (drop n p) j ≡ finished x now y p k
put_split x y zero k zero j now p same e h f = let g : j ≡ k = omega (arith, e) in rw g refl
put_split x y zero k (suc i) j now p same e h f = absurd (omega arith)
put_split x y (suc n) k i j [] [] same e h f = rw (none_finished x y i, none_finished x y j, none_finished x y k) refl
put_split x y (suc n) k i j [] (u ∷ p) same e h f = absurd (omega arith)
put_split x y (suc n) k i j (z ∷ now) [] same e h f = absurd (omega arith)
put_split x y (suc n) k zero j (z ∷ now) (u ∷ p) same e h f =
    let none : j ≡ 0 = f (omega arith) in
    let zero_is : k ≡ 0 = omega (arith, e, none) in
    rw (none, zero_is) (ap (λ zs. (x *ℤ z -ℤ y *ℤ u) ∷ zs) (put_split x y n 0 0 0 now p (omega arith) refl (omega arith) (λ lt. refl)))
put_split x y (suc n) zero (suc i) j (z ∷ now) (u ∷ p) same e h f = absurd (omega arith)
put_split x y (suc n) (suc k) (suc i) j (z ∷ now) (u ∷ p) same e h f =
    ap (λ zs. z ∷ zs) (put_split x y n k i j now p (omega arith) (omega arith) (omega arith) (λ lt. f (omega arith)))

-- ---- an entry stays where nothing is taken from it

pub combined_kept : (b : ℤ) (r s : List ℤ) → length r ≡ length s → (i : ℕ) → i < length r → (now : List ℤ) → now ≡ combined (pos 1) r b s i → get_or s i (pos 0) ≡ pos 0
    → now ≡ combined (pos 1) r b s (i + 1)
combined_kept b r s same i h now e none =
    sym (set-get_or now i (pos 0)) ∙ combined_step (pos 1) b r s same i h now (get_or now i (pos 0)) e (rw none (omega (arith, ints)))

-- ---- the row that is made

module _ (n : ℕ) (w : PutRow) (p now : List ℤ) (h : IsPut n w p now) where
  put_size : length (put_numbers w p now) + 1 ≡ length now
  put_size =
      ap (λ k. k + 1) (finished_length w.by.of_row w.by.of_pivot (drop 1 now) (drop 1 p) w.made h.terms.lengths (simp length-drop (omega (arith, h.made))))
      ∙ simp length-drop (omega (arith, h.some))

  turned_put : (made : Row) → made ≡ divided (put_row n w p now) → IsShortRow made → IsShortReduced n (places_of n now) made
  turned_put made e short =
      let some = some_product (entry now 0) w.by.of_row h.den.positive h.factor in
      let whole = divided_positive (put_row n w p now) some in
      let coefs : length made.coefs ≡ n =
      ap (λ (r : Row). length r.coefs) e ∙ length-map (put_row n w p now).coefs _ ∙ length-set (take n (put_numbers w p now)) w.column _ ∙ simp length-take (omega (arith, put_size, h.some)) in
      let constant : length made.constant ≡ places_of n now + 1 =
      ap (λ (r : Row). length r.constant) e ∙ length-map (put_row n w p now).constant _ ∙ simp length-drop (omega (arith, put_size, h.some)) in
      record {
        row = short_row n (places_of n now) made (subst (λ (r : Row). pos 1 ≤ℤ r.den) (sym e) whole) coefs constant short;
        reduced = ap content e ∙ content-divided (put_row n w p now) some;
        short = short;
      }

  pub put_done : (zs : List ℤ) → length zs ≡ length now → row_of_numbers n zs ≡ divided (put_row n w p now) → IsShortRow (row_of_numbers n zs) → IsTurned n (divided (put_row n w p now)) true zs
  put_done zs long e short = record { value = λ all. e; row = λ all. subst (λ (k : ℕ). IsShortReduced n (k - (n + 2)) (row_of_numbers n zs)) (sym long) (turned_put (row_of_numbers n zs) e short); long = λ none. cc }

  pub put_long : (zs : List ℤ) → is_short_row (divided (put_row n w p now)) ≡ false → IsTurned n (divided (put_row n w p now)) false zs
  put_long zs long = record { value = λ all. cc; row = λ all. cc; long = λ none. long }

  -- its numbers, where all behind the denominator are made
  pub put_closed : (d e : ℤ) → w.made + 1 ≡ length now → d ≡ entry now 0 *ℤ w.by.of_row → e ≡ w.by.of_pivot *ℤ entry p 0
      → row_of_numbers n (slice_set (slice_set now 0 d) (w.column + 1) e) ≡ put_row n w p now
  put_closed d e all f g = closed now (omega (arith, h.some)) h.column (finished_all w.by.of_row w.by.of_pivot (drop 1 now) (drop 1 p) w.made (simp length-drop (omega (arith, all)))) ∙ rw (f, g) refl
    where
      closed : (now : List ℤ) → 1 ≤ length now → w.column < n → put_numbers w p now ≡ drop 1 now
          → row_of_numbers n (slice_set (slice_set now 0 d) (w.column + 1) e) ≡ row_from d (slice_set (take n (put_numbers w p now)) w.column e) (drop n (put_numbers w p now))
      closed [] size lt is = absurd (omega arith)
      closed (z ∷ zs) size lt is = rw (one_more w.column, is, take-set-lt n zs w.column e lt, drop-set-lt n zs w.column e lt) refl

-- ---- a row by its numbers

pub numbers_short : (n : ℕ) (zs : List ℤ) → 1 ≤ length zs → All IsShort zs → IsShortRow (row_of_numbers n zs)
numbers_short n zs h all = record {
  den = all 0 (pos 0) h;
  coefs = All-take IsShort n (drop 1 zs) (All-drop IsShort 1 zs all);
  constant = All-drop IsShort n (drop 1 zs) (All-drop IsShort 1 zs all);
}

content_parts : (r : Row) → content r ≡ gcd (gcd r.den (gcd_of r.coefs)) (gcd_of r.constant)
content_parts r = sym (gcd_assoc r.den (gcd_of r.coefs) (gcd_of r.constant))

pub numbers_divided : (n : ℕ) (zs : List ℤ) (g : ℤ) → 1 ≤ length zs → g ≡ content (row_of_numbers n zs) → row_of_numbers n (floor_divided g zs) ≡ divided (row_of_numbers n zs)
numbers_divided n [] g h e = absurd (omega arith)
numbers_divided n (z ∷ zs) g h e =
    divided_row z (take n zs) (drop n zs) g (floor_div z g) (take n (floor_divided g zs)) (drop n (floor_divided g zs)) (e ∙ content_parts (row_of_numbers n (z ∷ zs))) refl
    (take-map (λ x. floor_div x g) n zs) (drop-map (λ x. floor_div x g) n zs)

pub divided_already : (r : Row) → content r ≡ pos 1 → r ≡ divided r
divided_already r e = divided_one r.den r.coefs r.constant (sym e ∙ content_parts r)

pub whole_short : (zs : List ℤ) → IsShort (entry zs 0) → All IsShort (drop 1 zs) → All IsShort zs
whole_short [] h all = λ k d lt. absurd (omega (arith, lt))
whole_short (z ∷ zs) h all = All-cons IsShort z zs h all

-- its divisor, found from the denominators
pub closed_content : (n : ℕ) (w : PutRow) (p now zs : List ℤ) (start : ℤ) → IsPut n w p now → row_of_numbers n zs ≡ put_row n w p now → start ≡ gcd (entry now 0) (entry p 0)
    → content (row_of_numbers n zs) ≡ gcd start (gcd_of (drop 1 zs))
closed_content n w p now zs start h e f =
    subst (λ (r : Row). content r ≡ gcd (gcd (entry now 0) (entry p 0)) (gcd (gcd_of r.coefs) (gcd_of r.constant))) (sym e) h.content
    ∙ rw (f, (ap gcd_of (sym (take-append-drop n (drop 1 zs))) ∙ gcd_of_append (take n (drop 1 zs)) (drop n (drop 1 zs)))) refl

-- ---- the rest by 128 bits

module _ (n : ℕ) (w : PutRow) (p now coefs constant : List ℤ) (d : ℤ) (h : IsPut n w p now) (e : row_of_numbers n now ≡ row_from d coefs constant) (q : Row) (qe : q ≡ row_of_numbers n p)
    (i j : ℕ) (sum : i + j ≡ w.made) (within : i ≤ n) (none : i < n → j ≡ 0)
    (den en : ℤ) (den_is : den ≡ entry now 0 *ℤ w.by.of_row) (en_is : en ≡ w.by.of_pivot *ℤ entry p 0) (den_fits : Fits den) (en_fits : Fits en) where
  abbrev begun : BegunRow
  begun = record { by = w.by; column = w.column; den = den; entry = en; coefs = i; constant = j }

  coefs_is : coefs ≡ take n (drop 1 now)
  coefs_is = sym (ap (λ (r : Row). r.coefs) e)

  constant_is : constant ≡ drop n (drop 1 now)
  constant_is = sym (ap (λ (r : Row). r.constant) e)

  coefs_size : length coefs ≡ n
  coefs_size = ap length coefs_is ∙ simp (length-take, length-drop) (omega (arith, h.some))

  constant_size : length constant ≡ length now - 1 - n
  constant_size = ap length constant_is ∙ simp length-drop (omega arith)

  q_coefs : length q.coefs ≡ n
  q_coefs = ap (λ (r : Row). length r.coefs) qe ∙ simp (length-take, length-drop) (omega (arith, h.size, h.some))

  whole : begun_coefs begun q coefs ++ begun_constant begun q constant ≡ put_numbers w p now
  whole = rw (qe, coefs_is, constant_is) (put_split w.by.of_row w.by.of_pivot n w.made i j (drop 1 now) (drop 1 p) h.terms.lengths sum within none)

  first_size : length (begun_coefs begun q coefs) ≡ n
  first_size = finished_length w.by.of_row w.by.of_pivot coefs q.coefs i (coefs_size ∙ sym q_coefs) (omega (arith, within, coefs_size)) ∙ coefs_size

  coefs_are : begun_coefs begun q coefs ≡ take n (put_numbers w p now)
  coefs_are = sym (take_at (begun_coefs begun q coefs) (begun_constant begun q constant) n first_size) ∙ ap (take n) whole

  constant_are : begun_constant begun q constant ≡ drop n (put_numbers w p now)
  constant_are = sym (drop_at (begun_coefs begun q coefs) (begun_constant begun q constant) n first_size) ∙ ap (drop n) whole

  begun_is : begun_row begun q coefs constant ≡ put_row n w p now
  begun_is = rw (coefs_are, constant_are, den_is, en_is) refl

  pub put_wide : IsBegun begun q coefs constant
  put_wide = record {
    den = record { positive = subst (λ z. pos 1 ≤ℤ z) (sym den_is) (some_product (entry now 0) w.by.of_row h.den.positive h.factor); fits = den_fits };
    entry_fits = en_fits;
    column = omega (arith, coefs_size, h.column);
    coefs_terms = record {
      lengths = coefs_size ∙ sym q_coefs;
      row_factor = h.terms.row_factor;
      row = All-same IsShort _ _ coefs_is (All-take IsShort n (drop 1 now) h.terms.row);
      pivot_factor = h.terms.pivot_factor;
      pivot = All-same IsShort _ _ (ap (λ (r : Row). r.coefs) qe) (All-take IsShort n (drop 1 p) h.terms.pivot);
    };
    constant_terms = record {
      lengths = constant_size ∙ sym (ap (λ (r : Row). length r.constant) qe ∙ simp length-drop (omega (arith, h.size)));
      row_factor = h.terms.row_factor;
      row = All-same IsShort _ _ constant_is (All-drop IsShort n (drop 1 now) h.terms.row);
      pivot_factor = h.terms.pivot_factor;
      pivot = All-same IsShort _ _ (ap (λ (r : Row). r.constant) qe) (All-drop IsShort n (drop 1 p) h.terms.pivot);
    };
    coefs_made = omega (arith, within, coefs_size);
    constant_made = omega (arith, none_more, constant_size);
    zero = ap (λ xs. entry xs w.column) coefs_are ∙ h.zero;
  }
    where
      none_more : j ≤ length now - 1 - n
      none_more = search (rules, arith, none, sum, h.made, within)

  pub put_wide_done : (front coefs_now constant_now : List ℤ) (z : ℤ) → length front ≡ 1 → length coefs_now ≡ length coefs → length constant_now ≡ length constant
      → IsDenominatorOf (divided (begun_row begun q coefs constant)) coefs_now constant_now (Some z) → IsTurned n (divided (put_row n w p now)) true (slice_set front 0 z ++ (coefs_now ++ constant_now))
  put_wide_done front coefs_now constant_now z one size same told =
      let set = length-set front 0 z in
      let long : length (slice_set front 0 z ++ (coefs_now ++ constant_now)) ≡ length now = simp length-append (omega (arith, set, one, size, same, coefs_size, constant_size, h.some)) in
      let join = row_join n front coefs_now constant_now z one (size ∙ coefs_size) in
      put_done n w p now h (slice_set front 0 z ++ (coefs_now ++ constant_now)) long (join ∙ told.value ∙ ap divided begun_is) (subst IsShortRow (sym join) told.short)

  pub put_wide_long : (coefs_now constant_now zs : List ℤ) → IsDenominatorOf (divided (begun_row begun q coefs constant)) coefs_now constant_now None → IsTurned n (divided (put_row n w p now)) false zs
  put_wide_long coefs_now constant_now zs told = put_long n w p now h zs (ap (λ (r : Row). is_short_row (divided r)) (sym begun_is) ∙ told.long)

-- ---- the numbers that are not made yet

drop_none : (k : ℕ) → drop {A = ℤ} k [] ≡ []
drop_none zero = refl
drop_none (suc k) = refl

pub rest_terms : (n : ℕ) (w : PutRow) (p now rest others : List ℤ) → IsPut n w p now → rest ≡ drop (w.made + 1) now → others ≡ drop (w.made + 1) p → AreTerms w.by.of_row rest w.by.of_pivot others
rest_terms n w p now rest others h e f = record {
  lengths = ap length e ∙ simp length-drop (omega (arith, h.size)) ∙ sym (ap length f);
  row_factor = h.terms.row_factor;
  row = All-same IsShort rest (drop w.made (drop 1 now)) (e ∙ behind_one now) (All-drop IsShort w.made (drop 1 now) h.terms.row);
  pivot_factor = h.terms.pivot_factor;
  pivot = All-same IsShort others (drop w.made (drop 1 p)) (f ∙ behind_one p) (All-drop IsShort w.made (drop 1 p) h.terms.pivot);
}
  where
    behind_one : (zs : List ℤ) → drop (w.made + 1) zs ≡ drop w.made (drop 1 zs)
    behind_one [] = ap (λ (k : ℕ). drop {A = ℤ} k []) (one_more w.made) ∙ sym (drop_none w.made)
    behind_one (z ∷ zs) = rw (one_more w.made) refl

pub behind_short : (m : ℕ) (front rest now : List ℤ) → front ≡ take (m + 1) now → All IsShort (drop 1 now) → All IsShort rest → All IsShort (drop 1 (front ++ rest))
behind_short m front rest [] e all more = rw (rw (one_more m) at e) (All-drop IsShort 1 rest more)
behind_short m front rest (z ∷ now) e all more =
    rw (rw (one_more m) at e) (All-append IsShort (take m now) rest (All-take IsShort m now all) more)
