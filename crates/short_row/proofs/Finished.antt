-- A row that is made in two steps, and what shows that it is not short.
use Rattle.short_row.proofs.Words.{rules, ◌≡◌, refl, ap, sym, ◌∙◌, ℕ, zero, suc, ◌+◌, ◌<◌, ◌≤◌, ℤ, pos, negsuc, ◌≤ℤ◌, ◌*ℤ◌, ◌-ℤ◌, Bool, true, false, ◌&&◌, List, [], ◌∷◌, ◌++◌, length, take, drop, get_or, set, arith, append-nil, append_assoc, length-append, length-drop, length-set, ints, and-false, lt-ltb, take_at, drop_at, take_all, drop_all, take-append-drop, length-take, length-map, drop_more, take_more, set_at, get_or_at, map-set, map-append, get_or-map, get_or-set_same, list_all-append, list_all_at, slice_set, None, list_all, length-combine, entry-combine, gcd, gcd_of, floor_div, combine, floor_divided, Row, divided, gcd_assoc, gcd_zero, gcd_exchanged, gcd_step, combined, is_short, row_from, finished, begun_coefs, begun_constant, begun_row, begun_divisor, IsBegun, is_short_row, IsDenominatorOf, take_combine, drop_combine, divided_row, BegunRow}
use Rattle.short_numbers.proofs.Quotients.{quotient_short}

-- ---- the entries in front of a place are made

module _ (a b : ℤ) (r s : List ℤ) (k : ℕ) where
  pub finished_combined : (now : List ℤ) → length r ≡ length s → k ≤ length r → now ≡ combined a r b s k → finished a now b s k ≡ combine a r b s
  finished_combined now same h e =
      let front = combine a (take k r) b (take k s) in
      let lengths : length (take k r) ≡ length (take k s) = simp length-take (omega arith) in
      let size : length front ≡ k = length-combine a (take k r) b (take k s) lengths ∙ simp length-take (omega arith) in
      rw (e, take_at front (drop k r) k size, drop_at front (drop k r) k size, take_combine a b r s k, drop_combine a b r s k)
      (take-append-drop k (combine a r b s))

  pub finished_all : length r ≤ k → finished a r b s k ≡ r
  finished_all h = rw (take_all k r h, drop_all k r h) (append-nil r)

  pub finished_length : length r ≡ length s → k ≤ length r → length (finished a r b s k) ≡ length r
  finished_length same h =
      let made = length-combine a (drop k r) b (drop k s) (simp length-drop (omega arith)) in
      simp (length-append, length-take, made, length-drop) (omega arith)

pub gcd_of_append : (xs ys : List ℤ) → gcd_of (xs ++ ys) ≡ gcd (gcd_of xs) (gcd_of ys)
gcd_of_append [] ys = sym (gcd_zero ys)
gcd_of_append (x ∷ xs) ys = ap (gcd x) (gcd_of_append xs ys) ∙ sym (gcd_assoc x (gcd_of xs) (gcd_of ys))

pub gcd_finished : (start found whole : ℤ) (xs ys : List ℤ) → found ≡ gcd start (gcd_of xs) → whole ≡ gcd found (gcd_of ys) → whole ≡ gcd start (gcd_of (xs ++ ys))
gcd_finished start found whole xs ys e f =
    f ∙ ap (λ z. gcd z (gcd_of ys)) e ∙ gcd_assoc start (gcd_of xs) (gcd_of ys) ∙ ap (gcd start) (sym (gcd_of_append xs ys))

pub divided_parts : (d : ℤ) (xs ys front rest : List ℤ) → front ≡ floor_divided d xs → rest ≡ floor_divided d ys → front ++ rest ≡ floor_divided d (xs ++ ys)
divided_parts d xs ys front rest e f = rw (e, f) (sym (map-append (λ x. floor_div x d) xs ys))

-- ---- lists of which not all pass

passing : (p t : Bool) → p ≡ true → (p && t) ≡ false → t ≡ false
passing true t e h = h
passing false t e h = absurd cc

either : (p t u : Bool) → (t ≡ false → u ≡ false) → (p && t) ≡ false → (p && u) ≡ false
either true t u f h = f h
either false t u f h = refl

-- an element that passes is set
list_all_set : {X : Type 0} (q : X → Bool) (xs : List X) (c : ℕ) (z d : X) → c < length xs → q (get_or xs c d) ≡ true → list_all q xs ≡ false → list_all q (set xs c z) ≡ false
list_all_set q [] c z d h e f = absurd (omega arith)
list_all_set q (x ∷ xs) zero z d h e f = rw (passing (q x) (list_all q xs) e f) (and-false (q z))
list_all_set q (x ∷ xs) (suc c) z d h e f = either (q x) (list_all q xs) (list_all q (set xs c z)) (list_all_set q xs c z d (omega arith) e) f

-- ---- the row, divided

zero_short : (g : ℤ) → pos 1 ≤ℤ g → is_short (floor_div (pos 0) g) ≡ true
zero_short g h = lt-ltb _ _ (quotient_short (pos 0) g h (omega arith))

pub no_denominator : (r : Row) (coefs constant : List ℤ) → is_short_row r ≡ false → IsDenominatorOf r coefs constant None
no_denominator r coefs constant long = record { value = search rules; short = search rules; long = long }

module _ (w : BegunRow) (p : Row) (coefs constant : List ℤ) (h : IsBegun w p coefs constant) (g : ℤ) (is : g ≡ begun_divisor w p coefs constant) where
  abbrev front : List ℤ
  front = begun_coefs w p coefs

  abbrev back : List ℤ
  back = begun_constant w p constant

  abbrev set_front : List ℤ
  set_front = slice_set (floor_divided g front) w.column (floor_div w.entry g)

  within : w.column < length front
  within = let size = finished_length w.by.of_row w.by.of_pivot coefs p.coefs w.coefs h.coefs_terms.lengths h.coefs_made in omega (arith, size, h.column)

  at_column : w.column < length (floor_divided g front)
  at_column = simp length-map within

  set_divisor : gcd_of (slice_set front w.column w.entry) ≡ gcd w.entry (gcd_of front)
  set_divisor = sym (gcd_zero (slice_set front w.column w.entry)) ∙ ap (λ z. gcd z (gcd_of (slice_set front w.column w.entry))) (sym h.zero) ∙ gcd_exchanged w.entry front w.column within

  divisor_is : g ≡ gcd (gcd w.den (gcd_of (slice_set front w.column w.entry))) (gcd_of back)
  divisor_is = is ∙ ap (λ z. gcd z (gcd_of back)) (gcd_assoc w.den w.entry (gcd_of front) ∙ ap (gcd w.den) (sym set_divisor))

  pub begun_divided : (d e : ℤ) (coefs_now constant_now : List ℤ) → d ≡ floor_div w.den g → e ≡ floor_div w.entry g → coefs_now ≡ floor_divided g front → constant_now ≡ floor_divided g back
      → row_from d (slice_set coefs_now w.column e) constant_now ≡ divided (begun_row w p coefs constant)
  begun_divided d e coefs_now constant_now a b q r =
      divided_row w.den (slice_set front w.column w.entry) back g d (slice_set coefs_now w.column e) constant_now divisor_is a
      (rw (q, b) (sym (map-set (λ x. floor_div x g) front w.column w.entry))) r

  parts : divided (begun_row w p coefs constant) ≡ row_from (floor_div w.den g) set_front (floor_divided g back)
  parts = sym (begun_divided _ _ _ _ refl refl refl refl)

  pub no_den : is_short (floor_div w.den g) ≡ false → is_short_row (divided (begun_row w p coefs constant)) ≡ false
  no_den long = ap is_short_row parts ∙ rw long refl

  no_list : list_all is_short set_front ≡ false → is_short_row (divided (begun_row w p coefs constant)) ≡ false
  no_list long = ap is_short_row parts ∙ rw long (and-false (is_short (floor_div w.den g)))

  pub no_entry : is_short (floor_div w.entry g) ≡ false → is_short_row (divided (begun_row w p coefs constant)) ≡ false
  no_entry long =
      no_list (list_all_at is_short set_front w.column (pos 0) (simp (length-set, length-map) within) (ap is_short (get_or-set_same (floor_divided g front) w.column (floor_div w.entry g) (pos 0) at_column) ∙ long))

  pub no_coefs : pos 1 ≤ℤ g → list_all is_short (floor_divided g front) ≡ false → is_short_row (divided (begun_row w p coefs constant)) ≡ false
  no_coefs some long =
      let here : get_or (floor_divided g front) w.column (pos 0) ≡ floor_div (pos 0) g = get_or-map (λ x. floor_div x g) front w.column (pos 0) (pos 0) within ∙ ap (λ z. floor_div z g) h.zero in
      no_list (list_all_set is_short (floor_divided g front) w.column (floor_div w.entry g) (pos 0) at_column (ap is_short here ∙ zero_short g some) long)

  pub no_constant : list_all is_short (floor_divided g back) ≡ false → is_short_row (divided (begun_row w p coefs constant)) ≡ false
  no_constant long = ap is_short_row parts ∙ rw (long, and-false (list_all is_short set_front)) (and-false (is_short (floor_div w.den g)))

-- ---- divisors, entry by entry

module _ (a b : ℤ) (r s : List ℤ) (same : length r ≡ length s) where
  pub gcd_next : (i : ℕ) (found z now whole : ℤ) → i < length r → z ≡ a *ℤ get_or r i (pos 0) -ℤ b *ℤ get_or s i (pos 0) → now ≡ gcd found z
      → gcd found (gcd_of (drop i (combine a r b s))) ≡ whole → gcd now (gcd_of (drop (i + 1) (combine a r b s))) ≡ whole
  gcd_next i found z now whole h e f g =
      ap (λ x. gcd x (gcd_of (drop (i + 1) (combine a r b s)))) (f ∙ ap (gcd found) (e ∙ sym (entry-combine a r b s i same)))
      ∙ gcd_step found (combine a r b s) i (omega (arith, h, same, length-combine a r b s same)) ∙ g

  pub gcd_end : (i : ℕ) (found whole : ℤ) → pos 1 ≤ℤ found → length r ≤ i → gcd found (gcd_of (drop i (combine a r b s))) ≡ whole → found ≡ whole
  gcd_end i (pos n) whole h k e = rw (drop_all i (combine a r b s) (omega (arith, k, same, length-combine a r b s same))) at e
  gcd_end i (negsuc n) whole h k e = absurd (omega (arith, ints))

-- ---- quotients, entry by entry

module _ (a b : ℤ) (r s : List ℤ) (same : length r ≡ length s) (d : ℤ) where
  quotients_length : length (floor_divided d (combine a r b s)) ≡ length r
  quotients_length = length-map (combine a r b s) (λ x. floor_div x d) ∙ length-combine a r b s same

  module _ (i : ℕ) (h : i < length r) (now : List ℤ) (is : now ≡ take i (floor_divided d (combine a r b s)) ++ drop i r) where
    front_length : length (take i (floor_divided d (combine a r b s))) ≡ i
    front_length = simp length-take (omega (arith, h, quotients_length))

    still : get_or now i (pos 0) ≡ get_or r i (pos 0)
    still = rw (is, drop_more r i (pos 0) h) (get_or_at (take i (floor_divided d (combine a r b s))) (get_or r i (pos 0)) (drop (i + 1) r) (pos 0) i front_length)

    quotient_here : (z q : ℤ) → z ≡ a *ℤ get_or now i (pos 0) -ℤ b *ℤ get_or s i (pos 0) → q ≡ floor_div z d → q ≡ get_or (floor_divided d (combine a r b s)) i (pos 0)
    quotient_here z q e f =
        let entry_is : z ≡ get_or (combine a r b s) i (pos 0) = e ∙ ap (λ x. a *ℤ x -ℤ b *ℤ get_or s i (pos 0)) still ∙ sym (entry-combine a r b s i same) in
        f ∙ ap (λ x. floor_div x d) entry_is ∙ sym (get_or-map (λ x. floor_div x d) (combine a r b s) i (pos 0) (pos 0) (omega (arith, h, same, length-combine a r b s same)))

    pub quotient_next : (z q : ℤ) → z ≡ a *ℤ get_or now i (pos 0) -ℤ b *ℤ get_or s i (pos 0) → q ≡ floor_div z d
        → set now i q ≡ take (i + 1) (floor_divided d (combine a r b s)) ++ drop (i + 1) r
    quotient_next z q e f =
        let front = take i (floor_divided d (combine a r b s)) in
        rw (quotient_here z q e f, is, take_more (floor_divided d (combine a r b s)) i (pos 0) (omega (arith, h, quotients_length)), drop_more r i (pos 0) h)
        (set_at front (get_or r i (pos 0)) (drop (i + 1) r) (get_or (floor_divided d (combine a r b s)) i (pos 0)) i front_length
        ∙ sym (append_assoc front (get_or (floor_divided d (combine a r b s)) i (pos 0) ∷ []) (drop (i + 1) r)))

    pub quotient_long : (z : ℤ) → z ≡ a *ℤ get_or now i (pos 0) -ℤ b *ℤ get_or s i (pos 0) → is_short (floor_div z d) ≡ false → list_all is_short (floor_divided d (combine a r b s)) ≡ false
    quotient_long z e long =
        list_all_at is_short (floor_divided d (combine a r b s)) i (pos 0) (omega (arith, h, quotients_length)) (ap is_short (sym (quotient_here z (floor_div z d) e refl)) ∙ long)

  pub quotient_end : (i : ℕ) → length r ≤ i → (now : List ℤ) → now ≡ take i (floor_divided d (combine a r b s)) ++ drop i r → now ≡ floor_divided d (combine a r b s)
  quotient_end i h now is =
      is ∙ rw (take_all i (floor_divided d (combine a r b s)) (omega (arith, h, quotients_length)), drop_all i r h) (append-nil (floor_divided d (combine a r b s)))

pub long_parts : (d : ℤ) (xs ys : List ℤ) → list_all is_short (floor_divided d ys) ≡ false → list_all is_short (floor_divided d (xs ++ ys)) ≡ false
long_parts d xs ys long =
    ap (list_all is_short) (map-append (λ x. floor_div x d) xs ys) ∙ list_all-append is_short (floor_divided d xs) (floor_divided d ys) ∙ rw long (and-false (list_all is_short (floor_divided d xs)))
