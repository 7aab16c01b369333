-- Rows that are kept by their numbers, with one row more.
use Rattle.tableau.proofs.Words.{◌≡◌, refl, ap, sym, ◌∙◌, subst, ℕ, ◌+◌, ◌-◌, ◌*◌, ◌<◌, ◌≤◌, ℤ, true, false, not, List, [], ◌∷◌, ◌++◌, length, take, drop, arith, length-append, append-nil, IsTrue, All, filter, flat_map, take_at, drop_at, take_all, take-append-le, drop-append-le, take-append-drop, length-drop, map-append, length_push, length-take-le, All-head, All-tail, All-push, All-weaker, All-same, filter-append, flat_map-append, add-mul, Row, unit_row, IsRow, IsReduced, numbers_of, row_of_numbers, is_unit_row, flat_numbers, IsShortRow, IsPlace, IsKnown, IsPlain, IsFlat, IsPlainRow, IsUnsealed, row_length, row_kept, rows_kept, Kept, RowPlace, content-one, row_again, unit_is, numbers_again, unit_short, unit_fits}
use Rattle.tableau.specs.declared.kept.Kept.TheVariants as kept

-- ---- numbers behind the others

kept_append : (n w : ℕ) (zs more : List ℤ) (k : Kept) → IsPlace n w (length zs) k → row_kept n w (zs ++ more) k ≡ row_kept n w zs k
kept_append n w zs more (kept.Unit c) h = refl
kept_append n w zs more (kept.At p) h =
    ap (λ (xs : List ℤ). row_of_numbers n (take (row_length n w) xs)) (drop-append-le p.first zs more (omega (arith, h)))
    ∙ ap (row_of_numbers n) (take-append-le (row_length n w) (drop p.first zs) more (simp length-drop (omega (arith, h))))

pub rows_append : (n w : ℕ) (zs more : List ℤ) (ks : List Kept) → All (IsPlace n w (length zs)) ks → rows_kept n w (zs ++ more) ks ≡ rows_kept n w zs ks
rows_append n w zs more [] h = refl
rows_append n w zs more (k ∷ ks) h =
    let rest = rows_append n w zs more ks (All-tail (IsPlace n w (length zs)) k ks h) in
    rw ((kept_append n w zs more k (All-head (IsPlace n w (length zs)) k ks h)), rest) refl

place_more : (n w l m : ℕ) → l ≤ m → (k : Kept) → IsPlace n w l k → IsPlace n w m k
place_more n w l m e (kept.Unit c) h = h
place_more n w l m e (kept.At p) h = omega (arith, e, h)

known_append : (n w : ℕ) (zs more : List ℤ) (ks : List Kept) → All (IsPlace n w (length zs)) ks → All (IsKnown n w zs) ks → All (IsKnown n w (zs ++ more)) ks
known_append n w zs more ks places h = λ i d lt. λ s. subst IsShortRow (sym (kept_append n w zs more _ (places i d lt))) (h i d lt s)

plain_one : (n w : ℕ) (zs more : List ℤ) (k : Kept) → IsPlace n w (length zs) k → IsPlain n w zs k → IsPlain n w (zs ++ more) k
plain_one n w zs more (kept.Unit c) h e = e
plain_one n w zs more (kept.At p) h e = ap is_unit_row (kept_append n w zs more (kept.At p) h) ∙ e

last_row : (n w : ℕ) (zs more : List ℤ) (last : RowPlace) → last.first ≡ length zs → length more ≡ row_length n w → row_kept n w (zs ++ more) (kept.At last) ≡ row_of_numbers n more
last_row n w zs more last f e =
    ap (λ (xs : List ℤ). row_of_numbers n (take (row_length n w) xs)) (drop_at zs more last.first (sym f))
    ∙ ap (row_of_numbers n) (take_all (row_length n w) more (omega (arith, e)))

pub rows_more : (n w : ℕ) (zs more : List ℤ) (ks : List Kept) (last : RowPlace) → All (IsPlace n w (length zs)) ks → last.first ≡ length zs → length more ≡ row_length n w
    → rows_kept n w (zs ++ more) (ks ++ kept.At last ∷ []) ≡ rows_kept n w zs ks ++ row_of_numbers n more ∷ []
rows_more n w zs more ks last h f e =
    map-append (row_kept n w (zs ++ more)) ks (kept.At last ∷ [])
    ∙ ap (λ (rs : List Row). rs ++ row_kept n w (zs ++ more) (kept.At last) ∷ []) (rows_append n w zs more ks h)
    ∙ ap (λ (r : Row). rows_kept n w zs ks ++ r ∷ []) (last_row n w zs more last f e)

-- ---- the numbers of the rows that are not those of columns

flat_append : (rs ss : List Row) → flat_numbers (rs ++ ss) ≡ flat_numbers rs ++ flat_numbers ss
flat_append rs ss =
    let many = λ (r : Row). not (is_unit_row r) in
    ap (flat_map numbers_of) (filter-append many rs ss) ∙ flat_map-append numbers_of (filter many rs) (filter many ss)

flat_plain : (rs : List Row) (r : Row) → is_unit_row r ≡ false → flat_numbers (rs ++ r ∷ []) ≡ flat_numbers rs ++ numbers_of r
flat_plain rs r e = flat_append rs (r ∷ []) ∙ rw e (ap (λ (zs : List ℤ). flat_numbers rs ++ zs) (append-nil (numbers_of r)))

flat_unit : (rs : List Row) (r : Row) → is_unit_row r ≡ true → flat_numbers (rs ++ r ∷ []) ≡ flat_numbers rs
flat_unit rs r e = flat_append rs (r ∷ []) ∙ rw e (append-nil (flat_numbers rs))

-- ---- one row more

room_more : (k l : ℕ) → (k + 1) * l ≡ k * l + l
room_more k l = add-mul k 1 l ∙ omega arith

pub with_plain : (n w : ℕ) (zs more : List ℤ) (ks : List Kept) (last : RowPlace) → IsFlat n w zs ks → last.first ≡ length zs → IsPlainRow n w more last.short → IsFlat n w (zs ++ more) (ks ++ kept.At last ∷ [])
with_plain n w zs more ks last h f p =
    let e = p.length in
    let rows = rows_more n w zs more ks last h.places f e in
    let long : length (zs ++ more) ≡ length zs + row_length n w = length-append zs more ∙ ap (λ k. length zs + k) e in
    record {
      places = All-push (IsPlace n w (length (zs ++ more))) ks (kept.At last)
          (All-weaker (IsPlace n w (length zs)) (IsPlace n w (length (zs ++ more))) (place_more n w (length zs) (length (zs ++ more)) (omega arith)) ks h.places)
          (omega (arith, f, long));
      rows = All-same (IsRow n w) _ _ rows (All-push (IsRow n w) _ _ h.rows p.row);
      reduced = All-same IsReduced _ _ rows (All-push IsReduced _ _ h.reduced p.reduced);
      short = All-push (IsKnown n w (zs ++ more)) ks (kept.At last) (known_append n w zs more ks h.places h.short)
          (λ s. subst IsShortRow (sym (last_row n w zs more last f e)) (p.short s));
      plain = All-push (IsPlain n w (zs ++ more)) ks (kept.At last) (λ i d lt. plain_one n w zs more _ (h.places i d lt) (h.plain i d lt))
          (ap is_unit_row (last_row n w zs more last f e) ∙ p.plain);
      flat = sym (ap flat_numbers rows ∙ flat_plain (rows_kept n w zs ks) (row_of_numbers n more) p.plain ∙ ap (λ (xs : List ℤ). xs ++ numbers_of (row_of_numbers n more)) (sym h.flat) ∙ ap (λ (xs : List ℤ). zs ++ xs) (numbers_again n more (omega arith)));
      few = rw (length_push ks (kept.At last), long, room_more (length ks) (row_length n w)) (omega (arith, h.few));
    }

-- the row of a column over the columns and places of a row
pub unit_over : (n w c : ℕ) (p : Row) → IsRow n w p → unit_row (length p.coefs) (length p.constant - 1) c ≡ unit_row n w c
unit_over n w c p h =
    let places : length p.constant - 1 ≡ w = omega (arith, h.constant) in
    rw (h.coefs, places) refl

pub with_unit : (n w c : ℕ) (zs : List ℤ) (ks : List Kept) → IsFlat n w zs ks → c < n → IsFlat n w zs (ks ++ kept.Unit c ∷ [])
with_unit n w c zs ks h lt =
    let rows = map-append (row_kept n w zs) ks (kept.Unit c ∷ []) in
    record {
      places = All-push (IsPlace n w (length zs)) ks (kept.Unit c) h.places lt;
      rows = All-same (IsRow n w) _ _ rows (All-push (IsRow n w) _ _ h.rows (unit_fits n w c lt));
      reduced = All-same IsReduced _ _ rows (All-push IsReduced _ _ h.reduced (content-one (unit_row n w c) refl));
      short = All-push (IsKnown n w zs) ks (kept.Unit c) h.short (λ s. unit_short n w c);
      plain = All-push (IsPlain n w zs) ks (kept.Unit c) h.plain tt;
      flat = sym (ap flat_numbers rows ∙ flat_unit (rows_kept n w zs ks) (unit_row n w c) (unit_is n w c lt) ∙ sym h.flat);
      few = rw (length_push ks (kept.Unit c), room_more (length ks) (row_length n w)) (omega (arith, h.few));
    }

-- ---- the row whose numbers stand last

begun : (n w : ℕ) (last : RowPlace) (zs : List ℤ) (ks : List Kept) → IsUnsealed n w last zs ks → last.first ≡ length (take last.first zs)
begun n w last zs ks h = sym (length-take-le last.first zs (omega (arith, h.begun)))

pub sealed : (n w : ℕ) (last : RowPlace) (zs : List ℤ) (ks : List Kept) → IsUnsealed n w last zs ks → is_unit_row (row_of_numbers n (drop last.first zs)) ≡ false
    → IsFlat n w zs (ks ++ kept.At last ∷ [])
sealed n w last zs ks h plain =
    let long : length (drop last.first zs) ≡ row_length n w = simp length-drop (omega (arith, h.begun)) in
    subst (λ (xs : List ℤ). IsFlat n w xs (ks ++ kept.At last ∷ [])) (take-append-drop last.first zs)
    (with_plain n w (take last.first zs) (drop last.first zs) ks last h.flat (begun n w last zs ks h) (record { length = long; row = h.row; reduced = h.reduced; short = h.short; plain = plain }))

pub sealed_rows : (n w : ℕ) (last : RowPlace) (zs : List ℤ) (ks : List Kept) → IsUnsealed n w last zs ks
    → rows_kept n w zs (ks ++ kept.At last ∷ []) ≡ rows_kept n w (take last.first zs) ks ++ row_of_numbers n (drop last.first zs) ∷ []
sealed_rows n w last zs ks h =
    let long : length (drop last.first zs) ≡ row_length n w = simp length-drop (omega (arith, h.begun)) in
    subst (λ (xs : List ℤ). rows_kept n w xs (ks ++ kept.At last ∷ []) ≡ rows_kept n w (take last.first zs) ks ++ row_of_numbers n (drop last.first zs) ∷ []) (take-append-drop last.first zs)
    (rows_more n w (take last.first zs) (drop last.first zs) ks last h.flat.places (begun n w last zs ks h) long)

-- ---- a row's numbers behind those of the others

pub unsealed : (n w : ℕ) (last : RowPlace) (zs all : List ℤ) (ks : List Kept) (r : Row) → all ≡ zs ++ numbers_of r → last.first ≡ length zs → IsFlat n w zs ks → IsRow n w r → IsReduced r
    → (IsTrue last.short → IsShortRow r) → IsUnsealed n w last all ks
unsealed n w last zs all ks r e f h row reduced short =
    let behind : row_of_numbers n (drop last.first all) ≡ r = ap (row_of_numbers n) (ap (drop last.first) e ∙ drop_at zs (numbers_of r) last.first (sym f)) ∙ row_again n r row.coefs in
    let long : length (r.coefs ++ r.constant) ≡ n + (w + 1) = length-append r.coefs r.constant ∙ omega (arith, row.coefs, row.constant) in
    record {
      flat = subst (λ (xs : List ℤ). IsFlat n w xs ks) (sym (ap (take last.first) e ∙ take_at zs (numbers_of r) last.first (sym f))) h;
      row = subst (IsRow n w) (sym behind) row;
      reduced = subst IsReduced (sym behind) reduced;
      short = λ s. subst IsShortRow (sym behind) (short s);
      begun = rw (e, length-append zs (numbers_of r), long) (omega (arith, f));
    }

pub more_rows : (n w start : ℕ) (zs all made : List ℤ) (ks more : List Kept) (r : Row) → all ≡ zs ++ numbers_of r → start ≡ length zs → length r.coefs ≡ n
    → rows_kept n w made more ≡ rows_kept n w (take start all) ks ++ row_of_numbers n (drop start all) ∷ [] → rows_kept n w made more ≡ rows_kept n w zs ks ++ r ∷ []
more_rows n w start zs all made ks more r e f row h =
    let last : row_of_numbers n (drop start all) ≡ r = ap (row_of_numbers n) (ap (drop start) e ∙ drop_at zs (numbers_of r) start (sym f)) ∙ row_again n r row in
    h ∙ rw ((ap (take start) e ∙ take_at zs (numbers_of r) start (sym f)), last) refl

pub flat_same : (n m w v : ℕ) (xs ys : List ℤ) (ks ls : List Kept) → n ≡ m → w ≡ v → xs ≡ ys → ks ≡ ls → IsFlat m v ys ls → IsFlat n w xs ks
flat_same n m w v xs ys ks ls e f g h flat = rw (e, f, g, h) flat
