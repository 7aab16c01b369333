-- Pivots of rows that are read off their forms.
use Rattle.node_rows.proofs.Words.{◌≡◌, ◌∙◌, refl, ap, sym, subst, ℕ, ◌+◌, ◌-◌, ◌*◌, ◌^◌, ◌<◌, ◌≤◌, ℤ, pos, ◌≤ℤ◌, ◌<ℤ◌, arith, true, List, [], ◌∷◌, ◌++◌, length, map, take, get_or, All, ints, map-append, take-append-le, take_all, length-map, entry, length-count, Row, row_at, form_row, eliminated, pivot, pivot_listed, entering, entering_of, entering_listed, entering_of_listed, candidates, start, unit_row, count_from, TableauRows, IsWide, norm, IsBasis, pivot_fits, Basis, IsRead, read, all_rows, append-nil, get_or_append_left, get_or_push, get_or-append_right, get_or-map, length_push, length-append, short_join}
use Rattle.std.proofs.lemmas.Nat.{mul-le}
use Rattle.pip_model.specs.Listed.{all_fit}
use Rattle.form_laws.proofs.Pivots.{pivot_is_map}
use Rattle.form_laws.proofs.Invariant.{wide_by_form}
use Rattle.form_laws.proofs.Within.{start_read, rows_are_short, form_is_short, none_refused, forms_pivot}

-- ---- rows by their places

pub row_front : (rows more : List Row) (r : ℕ) → r < length rows → row_at (rows ++ more) r ≡ row_at rows r
row_front rows more r lt = get_or_append_left rows more (form_row 0 []) r lt

pub row_last : (rows : List Row) (p : Row) (n : ℕ) → length rows ≡ n → row_at (rows ++ p ∷ []) n ≡ p
row_last rows p n e = get_or_push rows p (form_row 0 []) n e

pub row_behind : (rows : List Row) (g : List ℤ → Row) (forms : List (List ℤ)) (r : ℕ) (d : List ℤ) → length rows ≤ r → r < length rows + length forms
    → row_at (rows ++ map g forms) r ≡ g (get_or forms (r - length rows) d)
row_behind rows g forms r d le lt =
    get_or-append_right rows (map g forms) (length rows) r (form_row 0 []) refl le ∙ get_or-map g forms (r - length rows) d (form_row 0 []) (omega (arith, le, lt))

-- ---- the entering column asks the unknowns' rows and the row alone

pub entering_same : (xs ys : List Row) (r s : ℕ) (p : Row) → row_at xs r ≡ p → row_at ys s ≡ p → take (length p.coefs) xs ≡ take (length p.coefs) ys → entering xs r ≡ entering ys s
entering_same xs ys r s p e g h = rw (e, g) (ap (λ (u : List Row). entering_of u p (candidates p)) h)

pub listed_same : (xs ys : List Row) (r s : ℕ) (p : Row) → row_at xs r ≡ p → row_at ys s ≡ p → take (length p.coefs) xs ≡ take (length p.coefs) ys → entering_listed xs r ≡ entering_listed ys s
listed_same xs ys r s p e g h = rw (e, g) (ap (λ (u : List Row). entering_of_listed u p (candidates p)) h)

-- ---- a pivot of the unknowns' rows

module _ (t : TableauRows) (b : Basis) (f : List ℤ) (h : IsRead t b f) where
  pub front_fits : (r c : ℕ) → r < length t.rows → c < t.unknowns → all_fit (pivot_listed t.rows r c) ≡ true
  front_fits r c lt inside = pivot_fits t.unknowns t.rows r c lt inside (rows_are_short t.unknowns t.width t.rows b.scale b.most b.columns.items h.basis)

  pub front_pivot : (r c : ℕ) → r < length t.rows → pos 1 ≤ℤ entry (row_at t.rows r).coefs c → pivot t.rows r c ≡ map (eliminated (row_at t.rows r) c) t.rows
  front_pivot r c lt above = pivot_is_map t.unknowns t.width t.rows r c lt ((h.basis.rows r (form_row 0 []) lt).wide) (omega (arith, ints, above))

  some : pos 0 <ℤ b.scale
  some = omega (arith, ints, h.basis.positive)

  pub read_wide : IsWide t.unknowns t.width (read t b f)
  read_wide = wide_by_form t.unknowns t.width b.scale t.rows f some

  pub with_long : length (t.rows ++ read t b f ∷ []) ≡ t.unknowns + 1
  with_long = length_push t.rows (read t b f) ∙ ap (λ (n : ℕ). n + 1) h.basis.size

  pub with_fits : (c : ℕ) → c < t.unknowns → all_fit (pivot_listed (t.rows ++ read t b f ∷ []) t.unknowns c) ≡ true
  with_fits c inside = pivot_fits t.unknowns (t.rows ++ read t b f ∷ []) t.unknowns c (omega (arith, with_long)) inside
      (short_join t.unknowns t.rows (read t b f ∷ []) (rows_are_short t.unknowns t.width t.rows b.scale b.most b.columns.items h.basis)
      (form_is_short t.unknowns t.width t.rows b.scale b.most b.columns.items h.basis f h.bound, read_wide.coefs, tt))

  pub with_pivot : (c : ℕ) → pos 1 ≤ℤ entry (read t b f).coefs c
      → take t.unknowns (pivot (t.rows ++ read t b f ∷ []) t.unknowns c) ≡ map (eliminated (read t b f) c) t.rows
  with_pivot c above =
      let p = read t b f in
      let last : row_at (t.rows ++ p ∷ []) t.unknowns ≡ p = row_last t.rows p t.unknowns h.basis.size in
      let wide : IsWide t.unknowns t.width (row_at (t.rows ++ p ∷ []) t.unknowns) = subst (IsWide t.unknowns t.width) (sym last) read_wide in
      let positive : pos 0 <ℤ entry (row_at (t.rows ++ p ∷ []) t.unknowns).coefs c = subst (λ (q : Row). pos 0 <ℤ entry q.coefs c) (sym last) (omega (arith, ints, above)) in
      ap (take t.unknowns) (pivot_is_map t.unknowns t.width (t.rows ++ p ∷ []) t.unknowns c (omega (arith, with_long)) wide positive
      ∙ ap (λ (q : Row). map (eliminated q c) (t.rows ++ p ∷ [])) last
      ∙ map-append (eliminated p c) t.rows (p ∷ []))
      ∙ take-append-le t.unknowns (map (eliminated p c) t.rows) (map (eliminated p c) (p ∷ [])) (omega (arith, mapped))
      ∙ take_all t.unknowns (map (eliminated p c) t.rows) (omega (arith, mapped))
    where
      mapped : length (map (eliminated (read t b f) c) t.rows) ≡ t.unknowns
      mapped = length-map t.rows (eliminated (read t b f) c) ∙ h.basis.size

-- ---- a pivot of all rows

module _ (t : TableauRows) (b : Basis) (forms : List (List ℤ)) (h : All (IsRead t b) forms) (some : 0 < length forms) where
  first : IsBasis t.unknowns t.width t.rows b.scale b.most b.columns.items
  first = (h 0 [] some).basis

  wide : All (λ f. length f ≡ t.unknowns + (t.width + 1)) forms
  wide k d lt = (h k d lt).wide

  pub long : length t.rows ≡ t.unknowns
  long = first.size

  pub all_listed : (r c : ℕ) → r < length (all_rows t b forms).rows → c < t.unknowns → all_fit (pivot_listed (all_rows t b forms).rows r c) ≡ true
  all_listed r c lt inside = none_refused t.unknowns t.width t.rows b.scale b.most b.columns.items first forms wide (λ k d lt. (h k d lt).bound) r c lt inside

  pub all_pivot : (r c : ℕ) (a : Basis) → r < length (all_rows t b forms).rows → c < t.unknowns → pos 1 ≤ℤ entry (row_at (all_rows t b forms).rows r).coefs c
      → IsBasis t.unknowns t.width (map (eliminated (row_at (all_rows t b forms).rows r) c) t.rows) a.scale a.most a.columns.items
      → all_rows (record t { rows = map (eliminated (row_at (all_rows t b forms).rows r) c) t.rows }) a forms ≡ record (all_rows t b forms) { rows = pivot (all_rows t b forms).rows r c }
  all_pivot r c a lt inside above now =
      ap (λ (rows : List Row). record t { rows = rows })
      (forms_pivot t.unknowns t.width t.rows b.scale b.most b.columns.items first forms wide r c a.scale lt inside above now.positive now.rows)

  pub read_after : (now : TableauRows) (a : Basis) (most : ℕ) → now.unknowns ≡ t.unknowns → now.width ≡ t.width → IsBasis now.unknowns now.width now.rows a.scale a.most a.columns.items
      → All (λ f. norm f ≤ most) forms → most * a.most < 2 ^ 63 → All (IsRead now a) forms
  read_after now a most e g basis small bound k d lt = record {
    basis = basis;
    wide = rw (e, g) (wide k d lt);
    bound = omega (arith, mul-le (norm (get_or forms k d)) a.most most a.most (small k d lt) (omega arith), bound);
  }

-- ---- the entering column

pub same_rows : (s t : TableauRows) (a b : Basis) (fs gs : List (List ℤ)) → s ≡ t → a.scale ≡ b.scale → fs ≡ gs → all_rows s a fs ≡ all_rows t b gs
same_rows s t a b fs gs e g h = rw (e, g, h) refl

pub least : (t : TableauRows) (b : Basis) (forms : List (List ℤ)) → All (IsRead t b) forms → t.unknowns ≤ length (all_rows t b forms).rows → t.unknowns ≤ length t.rows
least t b [] h le = subst (λ (rows : List Row). t.unknowns ≤ length rows) (append-nil t.rows) le
least t b (f ∷ forms) h le = omega (arith, (h 0 [] (omega arith)).basis.size)

pub entering_front : (t : TableauRows) (b : Basis) (forms : List (List ℤ)) (r : ℕ) → r < length t.rows → length (row_at t.rows r).coefs ≤ length t.rows → entering t.rows r ≡ entering (all_rows t b forms).rows r
entering_front t b forms r lt narrow =
    sym (entering_same (all_rows t b forms).rows t.rows r r (row_at t.rows r) (row_front t.rows (map (read t b) forms) r lt) refl (take-append-le (length (row_at t.rows r).coefs) t.rows (map (read t b) forms) narrow))

pub listed_front : (t : TableauRows) (b : Basis) (forms : List (List ℤ)) (r : ℕ) → r < length t.rows → length (row_at t.rows r).coefs ≤ length t.rows → entering_listed t.rows r ≡ entering_listed (all_rows t b forms).rows r
listed_front t b forms r lt narrow =
    sym (listed_same (all_rows t b forms).rows t.rows r r (row_at t.rows r) (row_front t.rows (map (read t b) forms) r lt) refl (take-append-le (length (row_at t.rows r).coefs) t.rows (map (read t b) forms) narrow))

module _ (t : TableauRows) (b : Basis) (f : List ℤ) (h : IsRead t b f) (more : List Row) (r : ℕ) (is : row_at (t.rows ++ more) r ≡ read t b f) where
  columns : take (length (read t b f).coefs) (t.rows ++ read t b f ∷ []) ≡ take (length (read t b f).coefs) (t.rows ++ more)
  columns =
      let narrow : length (read t b f).coefs ≤ length t.rows = omega (arith, (read_wide t b f h).coefs, h.basis.size) in
      take-append-le (length (read t b f).coefs) t.rows (read t b f ∷ []) narrow ∙ sym (take-append-le (length (read t b f).coefs) t.rows more narrow)

  pub entering_with : entering (t.rows ++ read t b f ∷ []) t.unknowns ≡ entering (t.rows ++ more) r
  entering_with = entering_same (t.rows ++ read t b f ∷ []) (t.rows ++ more) t.unknowns r (read t b f) (row_last t.rows (read t b f) t.unknowns h.basis.size) is columns

  pub listed_with : entering_listed (t.rows ++ read t b f ∷ []) t.unknowns ≡ entering_listed (t.rows ++ more) r
  listed_with = listed_same (t.rows ++ read t b f ∷ []) (t.rows ++ more) t.unknowns r (read t b f) (row_last t.rows (read t b f) t.unknowns h.basis.size) is columns

pub all_long : (t : TableauRows) (b : Basis) (forms : List (List ℤ)) → length (all_rows t b forms).rows ≡ length t.rows + length forms
all_long t b forms = length-append t.rows (map (read t b) forms) ∙ ap (λ (k : ℕ). length t.rows + k) (length-map forms (read t b))

-- ---- the first rows

pub start_long : (n w : ℕ) → length (start n w []) ≡ n
start_long n w = ap length (append-nil (map (unit_row n w) (count_from 0 n))) ∙ length-map (count_from 0 n) (unit_row n w) ∙ length-count 0 n

pub start_rows : (t : TableauRows) (b : Basis) (forms copies : List (List ℤ)) (s : TableauRows) → t ≡ record { unknowns = s.unknowns; width = s.width; rows = start s.unknowns s.width [] }
    → IsBasis t.unknowns t.width t.rows b.scale b.most b.columns.items → copies ≡ forms → All (λ f. length f ≡ s.unknowns + s.width + 1) forms
    → all_rows t b copies ≡ record { unknowns = s.unknowns; width = s.width; rows = start s.unknowns s.width forms }
start_rows t b forms copies s e basis same wide =
    let now = subst (λ (x : TableauRows). IsBasis x.unknowns x.width x.rows b.scale b.most b.columns.items) e basis in
    rw (e, same) (ap (λ (rows : List Row). record { unknowns = s.unknowns; width = s.width; rows = rows })
    (start_read s.unknowns s.width (start s.unknowns s.width []) b.scale b.most b.columns.items forms refl now wide))

pub read_at : (t : TableauRows) (b : Basis) (forms : List (List ℤ)) (i n : ℕ) (f : List ℤ) → n ≡ length t.rows → n ≤ i → i < length (all_rows t b forms).rows → f ≡ get_or forms (i - n) f
    → row_at (all_rows t b forms).rows i ≡ read t b f
read_at t b forms i n f e le lt is =
    row_behind t.rows (read t b) forms i f (omega (arith, e, le)) (omega (arith, lt, all_long t b forms))
    ∙ ap (λ (k : ℕ). read t b (get_or forms (i - k) f)) (sym e) ∙ ap (read t b) (sym is)

pub read_item : (t : TableauRows) (b : Basis) (forms : List (List ℤ)) (i n : ℕ) (f : List ℤ) → All (IsRead t b) forms → n ≡ length t.rows → n ≤ i → i < length (all_rows t b forms).rows → f ≡ get_or forms (i - n) f → IsRead t b f
read_item t b forms i n f h e le lt is = subst (IsRead t b) (sym is) (h (i - n) f (omega (arith, lt, le, e, all_long t b forms)))
