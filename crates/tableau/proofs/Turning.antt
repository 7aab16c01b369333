-- The rows of a tableau in a pivot, as they are kept.
use Rattle.tableau.proofs.Words.{◌≡◌, refl, ap, sym, ◌∙◌, ℕ, zero, suc, ◌+◌, ◌<◌, ◌≢◌, Bool, true, false, ◌&&◌, IsTrue, IsFalse, append-nil, take_more, ℤ, pos, ◌≤ℤ◌, List, [], ◌∷◌, ◌++◌, length, map, take, arith, append_assoc, get_or, map-append, entry, all_fit, Row, unit_row, eliminated, row_of_numbers, IsReduced, IsShortRow, short_eliminated, eliminated_none, get_or-take, get_or-drop, drop, IsSteady, KeptRows, IsSpare, SameShape, with_more, with_rows, IsRow, flat_map-append, all_fit-append}
use Rattle.std.proofs.Common.{flat_map}
use Rattle.tableau.proofs.OtherColumns.{unit_listed, unit_turned}

-- ---- the row of another column

pub unit_steady : (n w k c : ℕ) (p : Row) → k < n → c < n → c ≢ k → IsRow n w p → pos 1 ≤ℤ entry p.coefs c → IsSteady p c (unit_row n w k)
unit_steady n w k c p h column other hp positive = record { listed = unit_listed n w k c p h column other hp; stays = unit_turned n w k c p h column other hp positive }

-- ---- a short row that is 0 in the column

pub short_steady : (n w c : ℕ) (p r : Row) → IsRow n w p → IsRow n w r → c < n → pos 1 ≤ℤ entry p.coefs c → entry r.coefs c ≡ pos 0 → IsReduced r → IsShortRow p → IsShortRow r → IsSteady p c r
short_steady n w c p r hp hr column positive none reduced p_short r_short = record {
  listed = short_eliminated p c r p_short r_short (omega (arith, column, hp.coefs)) (hr.coefs ∙ sym hp.coefs);
  stays = eliminated_none n w p c r hp hr positive none reduced;
}

-- its coefficient by its numbers
pub plain_entry : (n c : ℕ) (zs : List ℤ) → c < n → entry (row_of_numbers n zs).coefs c ≡ entry zs (1 + c)
plain_entry n c zs h = get_or-take n (drop 1 zs) c (pos 0) h ∙ get_or-drop 1 zs c (pos 0)

-- ---- the rows that are turned, one by one

turned_more : {X : Type 0} (f : X → Row) (p : Row) (c : ℕ) (xs : List X) (i : ℕ) (d : X) → i < length xs
    → map (λ x. eliminated p c (f x)) (take (i + 1) xs) ≡ map (λ x. eliminated p c (f x)) (take i xs) ++ eliminated p c (f (get_or xs i d)) ∷ []
turned_more {X} f p c xs i d h =
    let g : X → Row = λ x. eliminated p c (f x) in
    ap (map g) (take_more xs i d h) ∙ map-append g (take i xs) (get_or xs i d ∷ [])

pub rows_turned : {X : Type 0} (f : X → Row) (p : Row) (c : ℕ) (xs : List X) (i : ℕ) (d : X) (s t u : KeptRows) → i < length xs → t ≡ with_rows s (map (λ x. eliminated p c (f x)) (take i xs))
    → u ≡ with_more t (eliminated p c (f (get_or xs i d))) → u ≡ with_rows s (map (λ x. eliminated p c (f x)) (take (i + 1) xs))
rows_turned {X} f p c xs i d s t u h e made =
    let g : X → Row = λ x. eliminated p c (f x) in
    let one = g (get_or xs i d) in
    made ∙ ap (λ (v : KeptRows). with_more v one) e
    ∙ ap (λ (rs : List Row). record s { rows = rs }) (append_assoc s.rows (map g (take i xs)) (one ∷ []) ∙ ap (λ (rs : List Row). s.rows ++ rs) (sym (turned_more f p c xs i d h)))

-- their listed numbers
pub listed_more : {X : Type 0} (g : X → List ℤ) (xs : List X) (i : ℕ) (d : X) → i < length xs → IsTrue (all_fit (flat_map g (take i xs))) → IsTrue (all_fit (g (get_or xs i d))) → IsTrue (all_fit (flat_map g (take (i + 1) xs)))
listed_more g xs i d h all one =
    ap (λ ys. all_fit (flat_map g ys)) (take_more xs i d h)
    ∙ ap all_fit (flat_map-append g (take i xs) (get_or xs i d ∷ []))
    ∙ all_fit-append (flat_map g (take i xs)) (g (get_or xs i d) ++ [])
    ∙ rw (all, append-nil (g (get_or xs i d)), one) refl

pub listed_refused : {X : Type 0} (g : X → List ℤ) (xs : List X) (i : ℕ) (d : X) → i < length xs → IsFalse (all_fit (g (get_or xs i d))) → IsFalse (all_fit (flat_map g xs))
listed_refused g [] i d h refused = absurd (omega arith)
listed_refused g (x ∷ xs) zero d h refused = all_fit-append (g x) (flat_map g xs) ∙ rw refused refl
listed_refused g (x ∷ xs) (suc i) d h refused = all_fit-append (g x) (flat_map g xs) ∙ and_false (all_fit (g x)) (listed_refused g xs i d (omega (arith, h)) refused)
  where
    and_false : (a : Bool) {b : Bool} → b ≡ false → (a && b) ≡ false
    and_false true e = e
    and_false false e = refl

-- ---- the room of the next rows

pub shape_same : (t : KeptRows) → SameShape t t
shape_same t = record { unknowns = refl; width = refl; most = refl }

pub shape_with : (s t : KeptRows) (rows : List Row) → s ≡ record t { rows = rows } → SameShape s t
shape_with s t rows e = record {
  unknowns = ap (λ (u : KeptRows). u.unknowns) e;
  width = ap (λ (u : KeptRows). u.width) e;
  most = ap (λ (u : KeptRows). u.most) e;
}

pub still_spare : {rows next made : KeptRows} {units : List ℤ} → IsSpare rows next units → SameShape made next → IsSpare rows made units
still_spare h same = record {
  unknowns = same.unknowns ∙ h.unknowns;
  width = same.width ∙ h.width;
  room = rw same.most h.room;
  begun = h.begun;
  run = h.run;
}
