-- The rows on both sides of one in a pivot.
use Rattle.tableau.proofs.Words.{◌≡◌, refl, ap, sym, ◌∙◌, ℕ, ◌+◌, ◌<◌, ◌&&◌, List, [], ◌∷◌, ◌++◌, length, map, take, drop, arith, get_or, slice_set, length-map, take-map, drop-map, get_or-map, width, all_fit, Row, row_at, form_row, unit_row, eliminated, eliminated_listed, pivot, pivot_listed, IsRow, checked_sides, map-map}
use Rattle.std.proofs.Common.{flat_map}
use Rattle.std.proofs.lemmas.List.Folds.{flat_map-map}
use Rattle.row_laws.proofs.Places.{set_parts}

-- ---- the rows in front and behind

pub turned_sides : {X : Type 0} (f : X → Row) (rows : List Row) (front back : List X) (p : Row) (r c : ℕ) → map f front ≡ take r rows → map f back ≡ drop (r + 1) rows → p ≡ row_at rows r
    → all_fit (pivot_listed rows r c) ≡ (all_fit (flat_map (λ x. eliminated_listed p c (f x)) front) && all_fit (flat_map (λ x. eliminated_listed p c (f x)) back))
turned_sides f rows front back p r c e g same =
    checked_sides rows (map f front) (map f back) p r c e g same
    ∙ rw (flat_map-map (eliminated_listed p c) f front, flat_map-map (eliminated_listed p c) f back) refl

pub turned_pivot : {X : Type 0} (f : X → Row) (rows : List Row) (front back : List X) (p : Row) (r c n w : ℕ) → r < length rows → map f front ≡ take r rows → map f back ≡ drop (r + 1) rows → p ≡ row_at rows r → IsRow n w p
    → map (λ x. eliminated p c (f x)) front ++ unit_row n w c ∷ map (λ x. eliminated p c (f x)) back ≡ pivot rows r c
turned_pivot f rows front back p r c n w h e g same hp =
    let q = row_at rows r in
    let unit : unit_row n w c ≡ unit_row (length q.coefs) (width q.constant) c
    = ap_two (λ i j. unit_row i j c) (sym hp.coefs) (omega (arith, hp.constant)) ∙ ap (λ (s : Row). unit_row (length s.coefs) (width s.constant) c) same in
    ap (λ (s : Row). map (λ x. eliminated s c (f x)) front ++ unit_row n w c ∷ map (λ x. eliminated s c (f x)) back) same
    ∙ rw (unit, ← map-map (eliminated q c) f front, ← map-map (eliminated q c) f back, e, g, ← take-map (eliminated q c) r rows, ← drop-map (eliminated q c) (r + 1) rows)
    (sym (set_parts (map (eliminated q c) rows) r (unit_row (length q.coefs) (width q.constant) c) (simp length-map h)))
  where
    ap_two : (f : ℕ → ℕ → Row) {x y u v : ℕ} → x ≡ y → u ≡ v → f x u ≡ f y v
    ap_two f {x} {y} {u} {v} e k = ap (λ t. f t u) e ∙ ap (λ t. f y t) k

pub row_is : {X : Type 0} (f : X → Row) (xs : List X) (r : ℕ) (d : X) → r < length xs → f (get_or xs r d) ≡ row_at (map f xs) r
row_is f xs r d h = sym (get_or-map f xs r d (form_row 0 []) h)

-- the rows with another in place of row r
pub replaced_row : (rows front back : List Row) (r : ℕ) (made : Row) → r < length rows → front ≡ take r rows → back ≡ drop (r + 1) rows → front ++ made ∷ back ≡ slice_set rows r made
replaced_row rows front back r made h e g = rw (e, g) (sym (set_parts rows r made h))
