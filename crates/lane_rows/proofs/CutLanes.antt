-- The rows of cuts.
use Rattle.lane_rows.proofs.Words.{get_or, ◌≡◌, ◌∙◌, refl, ap, sym, subst, ℕ, ◌+◌, ◌<◌, ◌≤◌, ℤ, pos, negsuc, ◌≤ℤ◌, neg_ℤ, unsigned_abs, arith, nat_lt, Bool, true, false, ◌⊎◌, inl, inr, List, [], ◌∷◌, ◌++◌, length, length-append, All, ints, cases_lt, get_or_past, All-append, All-cons, All-nil, entry, Row, divided, mod_multiple, count_map, ScaledTable, with_row, same_made, constant_cut, row_over, entry_first, length_counted, cut_numbers, left_of, AreLanes, numbers_of, numbers_at, rows_in, table_of, AreLaned, IsLaned, above, get_or_push, get_or_append_left}
use Rattle.scaled_laws.proofs.Cutting.{cut_made, cut_within}
use Rattle.lane_rows.proofs.Numbers.{coefficient, constant_entry, numbers_long, same_numbers}

left_within : (l : ℤ) (b : Bool) (z : ℤ) (m : ℕ) → pos 1 ≤ℤ l → unsigned_abs l ≤ m → unsigned_abs (left_of l b z) ≤ m
left_within l true z m h le = cut_within 1 l m (z ∷ []) h le 0 (pos 0) (omega arith)
left_within l false z m h le = cut_within 0 l m (z ∷ []) h le 0 (pos 0) (omega arith)

after : (n : ℕ) → nat_lt n n ≡ false
after n = grind arith

some : (k : ℕ) → nat_lt 0 (k + 1) ≡ true
some k = grind arith

zero_left : (l : ℤ) (b : Bool) → pos 1 ≤ℤ l → left_of l b (pos 0) ≡ pos 0
zero_left (pos d) true h = mod_multiple d (pos 0) (omega (arith, ints, h)) (record { times = pos 0; is = omega (arith, ints) })
zero_left (pos d) false h = ap neg_ℤ (mod_multiple d (pos 0) (omega (arith, ints, h)) (record { times = pos 0; is = omega (arith, ints) }))
zero_left (negsuc d) b h = absurd (omega (arith, ints, h))

module _ (n : ℕ) (l : ℤ) (x y : List ℤ) (m : ℕ) (h : pos 1 ≤ℤ l) (few : n ≤ 7) (old : IsLaned n m x) (lanes : AreLanes y) (each : (k : ℕ) → k < 8 → entry y k ≡ left_of l (nat_lt 0 k) (entry x k)) where
  long : n < length x
  long = let e = old.lanes.long in omega (arith, e, few)

  number : (k : ℕ) → k < n + (0 + 1) → entry (cut_numbers n l (numbers_of n x)) k ≡ left_of l (nat_lt k n) (entry (numbers_of n x) k)
  number k lt = entry_first (λ k. left_of l (nat_lt k n) (entry (numbers_of n x) k)) (length (numbers_of n x)) k (omega (arith, lt, numbers_long n x long))

  pub numbers_left : cut_numbers n l (numbers_of n x) ≡ numbers_of n y
  numbers_left = same_numbers n y (cut_numbers n l (numbers_of n x)) (omega (arith, lanes.long, few))
      (length_counted (λ k. left_of l (nat_lt k n) (entry (numbers_of n x) k)) (length (numbers_of n x)) ∙ numbers_long n x long)
      (λ k lt.
      number k (omega (arith, lt)) ∙ ap (λ (b : Bool). left_of l b (entry (numbers_of n x) k)) (above k n lt) ∙ ap (left_of l true) (coefficient n x k long lt)
      ∙ sym (each (k + 1) (omega (arith, lt, few)) ∙ ap (λ (b : Bool). left_of l b (entry x (k + 1))) (some k)))
      (number n (omega arith) ∙ ap (λ (b : Bool). left_of l b (entry (numbers_of n x) n)) (after n) ∙ ap (left_of l false) (constant_entry n x long) ∙ sym (each 0 (omega arith)))

  pub row_cut : divided (row_over n l (numbers_of n y)) ≡ constant_cut (divided (row_over n l (numbers_of n x)))
  row_cut = ap (λ (zs : List ℤ). divided (row_over n l zs)) (sym numbers_left) ∙ cut_made n 0 l (numbers_of n x) h (numbers_long n x long)

  module _ (le : unsigned_abs l ≤ m) where
    pub cut_size : (k : ℕ) → unsigned_abs (entry y k) ≤ m
    cut_size k = by (cases_lt k 8)
      where
        nothing : (z : ℤ) → z ≡ pos 0 → unsigned_abs z ≤ m
        nothing z e = rw e (omega arith)

        by : (k < 8) ⊎ (8 ≤ k) → unsigned_abs (entry y k) ≤ m
        by (inl lt) = subst (λ (z : ℤ). unsigned_abs z ≤ m) (sym (each k lt)) (left_within l (nat_lt 0 k) (entry x k) m h le)
        by (inr past) = nothing (entry y k) (get_or_past y k (pos 0) (omega (arith, past, lanes.long)))

    pub cut_laned : IsLaned n m y
    cut_laned = record {
      lanes = lanes;
      unused = λ k more. by k more (cases_lt k 8);
      within = cut_size;
    }
      where
        by : (k : ℕ) → n < k → (k < 8) ⊎ (8 ≤ k) → entry y k ≡ pos 0
        by k more (inl lt) = each k lt ∙ ap (left_of l (nat_lt 0 k)) (old.unused k more) ∙ zero_left l (nat_lt 0 k) h
        by k more (inr past) = get_or_past y k (pos 0) (omega (arith, past, lanes.long))

-- ---- a row more

module _ (n : ℕ) (rows : List (List ℤ)) (at : List ℤ) (l : ℤ) (m : ℕ) (h : AreLaned n rows at l m) (new : List (List ℤ)) (y : List ℤ) (e : new ≡ rows ++ y ∷ []) where
  more_long : length new ≡ length rows + 1
  more_long = ap length e ∙ length-append rows (y ∷ [])

  there : (j : ℕ) → j < length rows → get_or new j [] ≡ get_or rows j []
  there j lt = ap (λ (xs : List (List ℤ)). get_or xs j []) e ∙ (get_or_append_left rows (y ∷ []) [] j lt)

  last : get_or new (length rows) [] ≡ y
  last = ap (λ (xs : List (List ℤ)). get_or xs (length rows) []) e ∙ get_or_push rows y [] (length rows) refl

  pub laned_more : IsLaned n m y → AreLaned n new at l m
  laned_more one = record {
    few = h.few;
    enough = omega (arith, h.enough, more_long);
    each = subst (All (IsLaned n m)) (sym e) (All-append (IsLaned n m) rows (y ∷ []) h.each (All-cons (IsLaned n m) y [] one (All-nil (IsLaned n m))));
    vertex = record {
      lanes = h.vertex.lanes;
      scale = h.vertex.scale;
      constants = λ j lt. h.vertex.constants j lt ∙ ap (λ (x : List ℤ). entry x 0) (sym (there j (omega (arith, lt, h.enough))));
      unused = h.vertex.unused;
    };
    positive = h.positive;
    common = h.common;
    small = h.small;
  }

  rows_more : rows_in n l (length new) new ≡ rows_in n l (length rows) rows ++ divided (row_over n l (numbers_of n y)) ∷ []
  rows_more =
      ap (λ (k : ℕ). rows_in n l k new) more_long
      ∙ count_map (λ j. divided (row_over n l (numbers_at n new j))) (length rows)
      ∙ ap (λ (rs : List Row). rs ++ divided (row_over n l (numbers_at n new (length rows))) ∷ [])
      (same_made _ _ (length rows) (λ j lt. ap (λ (x : List ℤ). divided (row_over n l (numbers_of n x))) (there j lt)))
      ∙ ap (λ (x : List ℤ). rows_in n l (length rows) rows ++ divided (row_over n l (numbers_of n x)) ∷ []) last

  pub table_more : (t : ScaledTable) (r : Row) → table_of n rows l m ≡ t → divided (row_over n l (numbers_of n y)) ≡ r → table_of n new l m ≡ with_row t r
  table_more t r is row =
      ap (λ (rs : List Row). record { unknowns = n; width = 0; rows = rs; scale = l; most = m }) (rows_more ∙ ap (λ (s : Row). rows_in n l (length rows) rows ++ s ∷ []) row)
      ∙ ap (λ (u : ScaledTable). with_row u r) is
