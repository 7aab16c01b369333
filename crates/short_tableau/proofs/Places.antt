-- Rows in their places.
use Rattle.short_tableau.proofs.Words.{◌≡◌, refl, ap, sym, ◌∙◌, subst, ℕ, zero, suc, ◌+◌, ◌-◌, ◌*◌, ◌<◌, ◌≤◌, ℤ, Bool, true, false, List, [], ◌∷◌, ◌++◌, length, map, take, drop, arith, append-nil, length-append, length-drop, slice_set, IsTrue, take_at, drop_at, take-append-le, drop-append-le, get_or_at, set_at, length-map, map-append, take_all, drop_all, take-append-drop, length-take-le, get_or-map, list_all-append, list_all_at, and-false, list_all, All-same, All-set, All-take, All-drop, All-push, All-append, All-cons, suc-mul, add-mul, Row, row_at, form_row, unit_row, eliminated, pivot, IsCandidate, row_of_numbers, numbers_of, mapped, TableauRows, with_row, row_size, rows_in, IsShortReduced, IsPivot, IsDense, is_short_row, AreTurned, row_again}

one_more : (i l : ℕ) → suc i * l ≡ l + i * l
one_more i l = suc-mul i l ∙ omega arith

pub rows_append : (n i k : ℕ) (zs ys : List ℤ) → length zs ≡ i * row_size n → rows_in n (i + k) (zs ++ ys) ≡ rows_in n i zs ++ rows_in n k ys
rows_append n zero k [] ys e = let g : zero + k ≡ k = omega arith in rw g refl
rows_append n zero k (z ∷ zs) ys e = absurd (omega arith)
rows_append n (suc i) k zs ys e =
    let g : suc i + k ≡ suc (i + k) = omega arith in
    let whole = one_more i (row_size n) in
    let long : row_size n ≤ length zs = omega (arith, e, whole) in
    let rest : length (drop (row_size n) zs) ≡ i * row_size n = length-drop (row_size n) zs ∙ omega (arith, e, whole) in
    rw (g, take-append-le (row_size n) zs ys long, drop-append-le (row_size n) zs ys long, rows_append n i k (drop (row_size n) zs) ys rest) refl

pub length_rows : (n k : ℕ) (zs : List ℤ) → length (rows_in n k zs) ≡ k
length_rows n zero zs = refl
length_rows n (suc k) zs = ap suc (length_rows n k (drop (row_size n) zs))

-- the numbers in front of row i, the row's, and those behind it
pub record AreParts (n k i : ℕ) (front mid back : List ℤ) : Type 0 where
  pub front_size : length front ≡ i * row_size n
  pub mid_size : length mid ≡ row_size n
  pub within : i < k

pub rows_parts : (n k i : ℕ) (front mid back : List ℤ) → AreParts n k i front mid back
    → rows_in n k (front ++ (mid ++ back)) ≡ rows_in n i front ++ row_of_numbers n mid ∷ rows_in n (k - (i + 1)) back
rows_parts n k i front mid back h =
    ap (λ j. rows_in n j (front ++ (mid ++ back))) (omega (arith, h.within))
    ∙ rows_append n i (suc (k - (i + 1))) front (mid ++ back) h.front_size
    ∙ ap (λ (rs : List Row). rows_in n i front ++ rs) (rw (take_at mid back (row_size n) h.mid_size, drop_at mid back (row_size n) h.mid_size) refl)

-- ---- short rows

pub dense_row : (n k i : ℕ) (zs : List ℤ) → IsDense n k zs → i < k → IsShortReduced n 0 (row_at (rows_in n k zs) i)
dense_row n k i zs h lt = h.rows i (form_row 0 []) (rw (length_rows n k zs) lt)

back_of : (A B : List Row) (r : Row) (i : ℕ) → length A ≡ i → drop (i + 1) (A ++ r ∷ B) ≡ B
back_of [] B r zero e = refl
back_of (a ∷ A) B r (suc i) e = let g : suc i + 1 ≡ suc (i + 1) = omega arith in rw g (back_of A B r i (omega arith))
back_of _ B r _ e = absurd (omega arith)

-- the numbers in front of row i, of it and behind it
three_sizes : (l i k : ℕ) → i < k → k * l ≡ i * l + (l + (k - (i + 1)) * l)
three_sizes l i k h = ap (λ j. j * l) (omega (arith, h)) ∙ add-mul (suc i) (k - (i + 1)) l ∙ omega (arith, one_more i l)

-- ---- rows in three parts

-- the numbers of k rows are those in front of row i, the row's, and those behind it
pub record IsSplit (n k i : ℕ) (zs front mid back : List ℤ) : Type 0 where
  pub whole : zs ≡ front ++ (mid ++ back)
  pub parts : AreParts n k i front mid back
  pub dense : IsDense n k zs

pub split_twice : (n k i place : ℕ) (zs front rest mid back : List ℤ) → IsDense n k zs → i < k → place ≡ i * row_size n → place + row_size n ≤ length zs
    → front ≡ take place zs → rest ≡ drop place zs → mid ≡ take (row_size n) rest → back ≡ drop (row_size n) rest → IsSplit n k i zs front mid back
split_twice n k i place zs front rest mid back dense h at within e f g b = record {
  whole = rw (e, g, b, f) (sym (ap (λ (ys : List ℤ). take place zs ++ ys) (take-append-drop (row_size n) (drop place zs)) ∙ take-append-drop place zs));
  parts = record {
    front_size = ap length e ∙ length-take-le place zs (omega (arith, within)) ∙ at;
    mid_size = ap length g ∙ length-take-le (row_size n) rest (let long = ap length f ∙ length-drop place zs in omega (arith, within, long));
    within = h;
  };
  dense = dense;
}

module _ (n k i : ℕ) (zs front mid back : List ℤ) (s : IsSplit n k i zs front mid back) where
  rows_split : rows_in n k zs ≡ rows_in n i front ++ row_of_numbers n mid ∷ rows_in n (k - (i + 1)) back
  rows_split = ap (rows_in n k) s.whole ∙ rows_parts n k i front mid back s.parts

  pub split_read : row_at (rows_in n k zs) i ≡ row_of_numbers n mid
  split_read =
      ap (λ (rs : List Row). row_at rs i) rows_split
      ∙ get_or_at (rows_in n i front) (row_of_numbers n mid) (rows_in n (k - (i + 1)) back) (form_row 0 []) i (length_rows n i front)

  pub split_row : IsShortReduced n 0 (row_of_numbers n mid)
  split_row = subst (IsShortReduced n 0) split_read (dense_row n k i zs s.dense s.parts.within)

  pub split_front : IsDense n i front
  split_front = record {
    size = s.parts.front_size;
    rows = All-same (IsShortReduced n 0) _ _
        (sym (ap (take i) rows_split ∙ take_at (rows_in n i front) (row_of_numbers n mid ∷ rows_in n (k - (i + 1)) back) i (length_rows n i front)))
        (All-take (IsShortReduced n 0) i (rows_in n k zs) s.dense.rows);
  }

  lengths : length front + (length mid + length back) ≡ length zs
  lengths = sym (ap length s.whole ∙ length-append front (mid ++ back) ∙ ap (λ j. length front + j) (length-append mid back))

  pub split_back : IsDense n (k - (i + 1)) back
  split_back = record {
    size = omega (arith, lengths, s.dense.size, s.parts.front_size, s.parts.mid_size, three_sizes (row_size n) i k s.parts.within);
    rows = All-same (IsShortReduced n 0) _ _
        (sym (ap (drop (i + 1)) rows_split ∙ back_of (rows_in n i front) (rows_in n (k - (i + 1)) back) (row_of_numbers n mid) i (length_rows n i front)))
        (All-drop (IsShortReduced n 0) (i + 1) (rows_in n k zs) s.dense.rows);
  }

  -- the row is written anew
  module _ (made : List ℤ) (size : length made ≡ length mid) where
    pub split_set : rows_in n k (front ++ (made ++ back)) ≡ slice_set (rows_in n k zs) i (row_of_numbers n made)
    split_set =
        rows_parts n k i front made back (record { front_size = s.parts.front_size; mid_size = size ∙ s.parts.mid_size; within = s.parts.within })
        ∙ sym (ap (λ (rs : List Row). slice_set rs i (row_of_numbers n made)) rows_split
        ∙ set_at (rows_in n i front) (row_of_numbers n mid) (rows_in n (k - (i + 1)) back) (row_of_numbers n made) i (length_rows n i front))

    pub split_turned : (f : Row → Row) → row_of_numbers n made ≡ f (row_of_numbers n mid) → rows_in n k (front ++ (made ++ back)) ≡ slice_set (rows_in n k zs) i (f (row_at (rows_in n k zs) i))
    split_turned f e = split_set ∙ ap (slice_set (rows_in n k zs) i) (e ∙ ap f (sym split_read))

    pub split_dense : IsShortReduced n 0 (row_of_numbers n made) → IsDense n k (front ++ (made ++ back))
    split_dense row = record {
      size = length-append front (made ++ back) ∙ ap (λ j. length front + j) (length-append made back ∙ ap (λ j. j + length back) size) ∙ lengths ∙ s.dense.size;
      rows = All-same (IsShortReduced n 0) _ _ split_set (All-set (IsShortReduced n 0) (rows_in n k zs) i (row_of_numbers n made) row s.dense.rows);
    }

pub mapped_all : (f : Row → Row) (old : List Row) (i : ℕ) → length old ≤ i → mapped f i old ≡ map f old
mapped_all f old i h = rw (take_all i old h, drop_all i old h) (append-nil (map f old))

-- ---- a row that is not short

pub long_row : (f : Row → Row) (rows : List Row) (i : ℕ) → i < length rows → is_short_row (f (row_at rows i)) ≡ false → list_all is_short_row (map f rows) ≡ false
long_row f rows i h e =
    list_all_at is_short_row (map f rows) i (form_row 0 []) (simp length-map h) (ap is_short_row (get_or-map f rows i (form_row 0 []) (form_row 0 []) h) ∙ e)

-- ---- the pivot

pub pivot_sides : (A B : List Row) (p : Row) (r c n : ℕ) → length A ≡ r → length p.coefs ≡ n → length p.constant ≡ 1
    → pivot (A ++ p ∷ B) r c ≡ map (eliminated p c) A ++ unit_row n 0 c ∷ map (eliminated p c) B
pivot_sides A B p r c n e f g =
    let at : row_at (A ++ p ∷ B) r ≡ p = get_or_at A p B (form_row 0 []) r e in
    let none : length p.constant - 1 ≡ 0 = omega (arith, g) in
    rw (at, map-append (eliminated p c) A (p ∷ B), none, f)
    (set_at (map (eliminated p c) A) (eliminated p c p) (map (eliminated p c) B) (unit_row n 0 c) r (simp length-map e))

pub dense_made : (n k i : ℕ) (front mid back : List ℤ) → AreParts n k i front mid back → IsDense n i front → IsShortReduced n 0 (row_of_numbers n mid) → IsDense n (k - (i + 1)) back → IsDense n k (front ++ (mid ++ back))
dense_made n k i front mid back h one row two = record {
  size = length-append front (mid ++ back) ∙ ap (λ j. length front + j) (length-append mid back) ∙ omega (arith, h.front_size, h.mid_size, two.size, three_sizes (row_size n) i k h.within);
  rows = All-same (IsShortReduced n 0) _ _ (rows_parts n k i front mid back h)
      (All-append (IsShortReduced n 0) (rows_in n i front) (row_of_numbers n mid ∷ rows_in n (k - (i + 1)) back) one.rows (All-cons (IsShortReduced n 0) (row_of_numbers n mid) (rows_in n (k - (i + 1)) back) row two.rows));
}

pub not_turned : (n k : ℕ) (rs : List Row) (zs : List ℤ) → list_all is_short_row rs ≡ false → AreTurned n k rs false zs
not_turned n k rs zs long = record { dense = λ all. cc; rows = λ all. cc; long = λ none. long }

-- the numbers that a pivot makes in front of row r, of it and behind it
module _ (n k r c : ℕ) (zs front mid back : List ℤ) (s : IsSplit n k r zs front mid back) where
  pub split_pivot : IsCandidate n (row_at (rows_in n k zs) r) c → IsPivot n 0 (row_of_numbers n mid) c
  split_pivot h = record { row = split_row n k r zs front mid back s; candidate = subst (λ (q : Row). IsCandidate n q c) (split_read n k r zs front mid back s) h }

  abbrev before : List Row
  before = map (eliminated (row_of_numbers n mid) c) (rows_in n r front)

  abbrev behind : List Row
  behind = map (eliminated (row_of_numbers n mid) c) (rows_in n (k - (r + 1)) back)

  pivot_is : pivot (rows_in n k zs) r c ≡ before ++ unit_row n 0 c ∷ behind
  pivot_is =
      let row = split_row n k r zs front mid back s in
      ap (λ (rs : List Row). pivot rs r c) (rows_split n k r zs front mid back s)
      ∙ pivot_sides (rows_in n r front) (rows_in n (k - (r + 1)) back) (row_of_numbers n mid) r c n (length_rows n r front) row.row.coefs row.row.constant

  pub pivot_made : (front_now made back_now : List ℤ) (x y : Bool) → length made ≡ length mid → IsShortReduced n 0 (unit_row n 0 c) → row_of_numbers n made ≡ unit_row n 0 c
      → AreTurned n r before x front_now → IsTrue x → AreTurned n (k - (r + 1)) behind y back_now → IsTrue y → AreTurned n k (pivot (rows_in n k zs) r c) true (front_now ++ (made ++ back_now))
  pivot_made front_now made back_now x y size unit is_unit one all_one two all_two =
      let first = one.dense all_one in
      let second = two.dense all_two in
      let parts : AreParts n k r front_now made back_now = record { front_size = first.size; mid_size = size ∙ s.parts.mid_size; within = s.parts.within } in
      record {
        dense = λ all. dense_made n k r front_now made back_now parts first (subst (IsShortReduced n 0) (sym is_unit) unit) second;
        rows = λ all. rows_parts n k r front_now made back_now parts ∙ rw (one.rows all_one, is_unit, two.rows all_two) (sym pivot_is);
        long = λ none. cc;
      }

  -- a number is not short in a row in front of row r or behind it
  pub long_before : (now : List ℤ) → list_all is_short_row before ≡ false → AreTurned n k (pivot (rows_in n k zs) r c) false now
  long_before now long = not_turned n k (pivot (rows_in n k zs) r c) now (ap (list_all is_short_row) pivot_is ∙ list_all-append is_short_row before (unit_row n 0 c ∷ behind) ∙ rw long refl)

  pub long_behind : (now : List ℤ) → list_all is_short_row behind ≡ false → AreTurned n k (pivot (rows_in n k zs) r c) false now
  long_behind now long =
      not_turned n k (pivot (rows_in n k zs) r c) now
      (ap (list_all is_short_row) pivot_is ∙ list_all-append is_short_row before (unit_row n 0 c ∷ behind)
      ∙ rw (long, and-false (is_short_row (unit_row n 0 c))) (and-false (list_all is_short_row before)))

-- ---- one row more

-- the numbers of a row that is pushed
pub push_size : (n : ℕ) (r : Row) → IsShortReduced n 0 r → length (numbers_of r) ≡ row_size n
push_size n r h = simp length-append (omega (arith, h.row.coefs, h.row.constant))

pub pushed_rows : (n k : ℕ) (zs : List ℤ) (r : Row) → length zs ≡ k * row_size n → IsShortReduced n 0 r → rows_in n (k + 1) (zs ++ numbers_of r) ≡ rows_in n k zs ++ r ∷ []
pushed_rows n k zs r e h =
    let all : take (row_size n) (numbers_of r) ≡ numbers_of r = take_all (row_size n) (numbers_of r) (omega (arith, push_size n r h)) in
    rows_append n k 1 zs (numbers_of r) e
    ∙ ap (λ (s : Row). rows_in n k zs ++ s ∷ []) (ap (row_of_numbers n) all ∙ row_again n r h.row.coefs)

pub dense_push : (n k : ℕ) (zs now : List ℤ) (r : Row) → now ≡ zs ++ numbers_of r → IsDense n k zs → IsShortReduced n 0 r → IsDense n (k + 1) now
dense_push n k zs now r e dense h = rw e (record {
  size = length-append zs (numbers_of r) ∙ let whole = add-mul k 1 (row_size n) in omega (arith, dense.size, push_size n r h, whole);
  rows = All-same (IsShortReduced n 0) _ _ (pushed_rows n k zs r dense.size h) (All-push (IsShortReduced n 0) _ _ dense.rows h);
})

-- ---- a tableau with one row more

pub pushed_view : (n k : ℕ) (zs now : List ℤ) (r : Row) (t : TableauRows) → record { unknowns = n; width = 0; rows = rows_in n k zs } ≡ t → IsDense n k zs → IsShortReduced n 0 r → now ≡ zs ++ numbers_of r
    → record { unknowns = n; width = 0; rows = rows_in n (k + 1) now } ≡ with_row t r
pushed_view n k zs now r t view dense h e =
    ap (λ (rs : List Row). record { unknowns = n; width = 0; rows = rs }) (ap (rows_in n (k + 1)) e ∙ pushed_rows n k zs r dense.size h)
    ∙ ap (λ (s : TableauRows). with_row s r) view

-- rows of other numbers, which are those of a law
pub turned_view : (n k : ℕ) (zs now : List ℤ) (f : List Row → List Row) (t : TableauRows) → record { unknowns = n; width = 0; rows = rows_in n k zs } ≡ t → rows_in n k now ≡ f (rows_in n k zs)
    → record { unknowns = n; width = 0; rows = rows_in n k now } ≡ record t { rows = f t.rows }
turned_view n k zs now f t view e =
    ap (λ (rs : List Row). record { unknowns = n; width = 0; rows = rs }) e
    ∙ ap (λ (s : TableauRows). record s { rows = f s.rows }) view

pub count_is : (n k : ℕ) (zs : List ℤ) (t : TableauRows) → record { unknowns = n; width = 0; rows = rows_in n k zs } ≡ t → k ≡ length t.rows
count_is n k zs t view = sym (length_rows n k zs) ∙ ap (λ (s : TableauRows). length s.rows) view
