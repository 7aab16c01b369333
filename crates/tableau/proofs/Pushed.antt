-- A table with one row more, and the room for it.
use Rattle.tableau.proofs.Words.{◌≡◌, ap, sym, ◌∙◌, ℕ, suc, ◌+◌, ◌<◌, ◌≤◌, ℤ, List, [], ◌∷◌, ◌++◌, length, take, drop, arith, length-append, length-map, Row, numbers_of, row_of_numbers, IsRow, KeptRows, IsFlat, row_length, row_kept, rows_kept, with_more, Kept, HasRoom, add-mul, mul-le-mul_right}
use Rattle.tableau.proofs.Flat.{more_rows}

-- a table's rows by its parts
abbrev pub kept_rows : ℕ → ℕ → ℕ → List Row → KeptRows
kept_rows n w most rows = record { unknowns = n; width = w; most = most; rows = rows }

-- a table with the row that was appended and is now kept
pub pushed : (t : KeptRows) (n w most : ℕ) (zs all made : List ℤ) (ks more : List Kept) (start : ℕ) (r : Row) → kept_rows n w most (rows_kept n w zs ks) ≡ t → all ≡ zs ++ numbers_of r → start ≡ length zs
    → length r.coefs ≡ n → rows_kept n w made more ≡ rows_kept n w (take start all) ks ++ row_of_numbers n (drop start all) ∷ [] → kept_rows n w most (rows_kept n w made more) ≡ with_more t r
pushed t n w most zs all made ks more start r is e f row h =
    ap (kept_rows n w most) (more_rows n w start zs all made ks more r e f row h) ∙ ap (λ (u : KeptRows). with_more u r) is

-- the numbers of a row
pub numbers_long : (n w : ℕ) (r : Row) → IsRow n w r → length (numbers_of r) ≡ row_length n w
numbers_long n w r h = ap suc (length-append r.coefs r.constant) ∙ omega (arith, h.coefs, h.constant)

-- ---- the room for one row more

module _ (t : KeptRows) (n w most kept_capacity numbers_capacity : ℕ) (zs : List ℤ) (ks : List Kept) (is : kept_rows n w most (rows_kept n w zs ks) ≡ t) (flat : IsFlat n w zs ks)
    (room : HasRoom n w most (length ks) kept_capacity numbers_capacity) (more : length t.rows < t.most) where
  one_left : length ks + 1 ≤ most
  one_left =
      let count : length ks ≡ length t.rows = sym (length-map ks (row_kept n w zs)) ∙ ap (λ (u : KeptRows). length u.rows) is in
      omega (arith, count, ap (λ (u : KeptRows). u.most) is, more)

  pub kept_room : length ks < kept_capacity
  kept_room = omega (arith, one_left, room.kept)

  pub length_room : length zs + row_length n w ≤ numbers_capacity
  length_room =
      let l = row_length n w in
      omega (arith, flat.few, mul-le-mul_right l one_left, add-mul (length ks) 1 l, room.numbers)

  pub row_room : (r : Row) → IsRow n w r → length zs + length (numbers_of r) ≤ numbers_capacity
  row_room r h = omega (arith, numbers_long n w r h, length_room)

  -- the rows with one more, in no less room
  pub room_behind : (kept_now numbers_now : ℕ) (now : List Kept) → length now ≡ length ks + 1 → kept_capacity ≤ kept_now → numbers_capacity ≤ numbers_now → HasRoom n w most (length now) kept_now numbers_now
  room_behind kept_now numbers_now now count h g = record { few = omega (arith, count, one_left); kept = omega (arith, room.kept, h); numbers = omega (arith, room.numbers, g) }
