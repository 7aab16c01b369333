-- The numbers of the row of a column, and of a form's row.
use Rattle.short_row.proofs.Words.{◌≡◌, refl, ap, sym, ◌∙◌, subst, ℕ, suc, ◌+◌, ◌-◌, ◌<◌, ◌≤◌, ℤ, pos, List, [], ◌∷◌, ◌++◌, length, map, take, drop, replicate, get_or, arith, append-nil, append_assoc, length-drop, length-set, All, slice_set, take_at, drop_at, take_all, drop_all, take_more, take-append-drop, length-replicate, set-append_left, set_at, length-take-le, drop_more, drop-replicate, take-replicate, ints, All-push, All-append, All-take, All-drop, All-replicate, width, constant, widen_to, form_row, unit_row, mapped, row_of_numbers, numbers_of, IsShort, IsShortRow, content-one, IsShortReduced, replicate-append-replicate, length-widened}
use Rattle.short_row.proofs.ShortParts.{short_row}

const_map : (xs : List ℤ) → map (λ x. pos 0) xs ≡ replicate (length xs) (pos 0)
const_map [] = refl
const_map (x ∷ xs) = ap (λ (rest : List ℤ). pos 0 ∷ rest) (const_map xs)

pub cleared : (xs : List ℤ) (i : ℕ) → length xs ≤ i → mapped (λ x. pos 0) i xs ≡ replicate (length xs) (pos 0)
cleared xs i h = rw (take_all i xs h, drop_all i xs h) (append-nil (map (λ x. pos 0) xs) ∙ const_map xs)

pub unit_numbers : (n m c : ℕ) (zs : List ℤ) → zs ≡ replicate (n + 2 + m) (pos 0) → c < n → row_of_numbers n (slice_set (slice_set zs 0 (pos 1)) (c + 1) (pos 1)) ≡ unit_row n m c
unit_numbers n m c zs e h =
    let g : n + 2 + m ≡ suc (n + (m + 1)) = omega arith in
    let last = replicate (m + 1) (pos 0) in
    let k : c + 1 ≡ suc c = omega arith in
    let column = slice_set (replicate n (pos 0)) c (pos 1) in
    let long : length column ≡ n = length-set (replicate n (pos 0)) c (pos 1) ∙ length-replicate n (pos 0) in
    let made : slice_set (replicate n (pos 0) ++ replicate (m + 1) (pos 0)) c (pos 1) ≡ column ++ replicate (m + 1) (pos 0) = set-append_left (replicate n (pos 0)) last c (pos 1) (simp length-replicate h) in
    rw (e, g, k, ← replicate-append-replicate n (m + 1) (pos 0), made, take_at column last n long, drop_at column last n long) refl

-- ---- one number more

pub short_step : (xs : List ℤ) (i : ℕ) (y d : ℤ) → i < length xs → All IsShort (take i xs) → y ≡ get_or xs i d → IsShort y → All IsShort (take (i + 1) xs)
short_step xs i y d h all e short = rw (take_more xs i d h) (All-push IsShort (take i xs) (get_or xs i d) all (subst IsShort e short))

-- ---- the row of a form

last_part : (c : List ℤ) → 1 ≤ length c → drop (width c) c ≡ constant c ∷ []
last_part c h = drop_more c (width c) (pos 0) (omega arith) ∙ ap (λ (rest : List ℤ). constant c ∷ rest) (drop_all (width c + 1) c (omega arith))

module _ (n : ℕ) (c : List ℤ) (some : 1 ≤ length c) (narrow : length c ≤ n + 1) (front last : List ℤ) (is_front : front ≡ take (length c - 1) c) (is_last : last ≡ drop (length c - 1) c) where
  abbrev zeros : List ℤ
  zeros = replicate (n - width c) (pos 0)

  pub form_numbers : numbers_of (form_row n (widen_to n c)) ≡ pos 1 ∷ ((front ++ zeros) ++ last)
  form_numbers = ap (λ (zs : List ℤ). pos 1 ∷ zs) (take-append-drop n (widen_to n c)) ∙ rw (is_front, is_last, last_part c some) refl

  pub form_short : All IsShort front → All IsShort last → IsShortRow (form_row n (widen_to n c))
  form_short a b =
      let whole : All IsShort ((front ++ zeros) ++ last) = All-append IsShort (front ++ zeros) last (All-append IsShort front zeros a (All-replicate IsShort (n - width c) (pos 0) (omega arith))) b in
      let all = subst (All IsShort) (sym (rw (is_front, is_last, last_part c some) refl)) whole in
      record { den = omega arith; coefs = All-take IsShort n (widen_to n c) all; constant = All-drop IsShort n (widen_to n c) all }

module _ (n : ℕ) (c : List ℤ) (some : 1 ≤ length c) (narrow : length c ≤ n + 1) where
  wide : length (widen_to n c) ≡ n + 1
  wide = length-widened n c (omega (arith, narrow))

  pub form_kept : IsShortRow (form_row n (widen_to n c)) → IsShortReduced n 0 (form_row n (widen_to n c))
  form_kept short = record {
    row = short_row n 0 (form_row n (widen_to n c)) (omega (arith, ints)) (length-take-le n (widen_to n c) (omega (arith, wide))) (length-drop n (widen_to n c) ∙ omega (arith, wide)) short;
    reduced = content-one (form_row n (widen_to n c)) refl;
    short = short;
  }

-- ---- a row that is written over zeros

-- one number more of a list is written over another
pub written_step : (xs old now : List ℤ) (i : ℕ) (y : ℤ) → i < length xs → length old ≡ length xs → now ≡ take i xs ++ drop i old → y ≡ get_or xs i (pos 0)
    → slice_set now i y ≡ take (i + 1) xs ++ drop (i + 1) old
written_step xs old now i y h e is g =
    let front = take i xs in
    ap (λ (zs : List ℤ). slice_set zs i y) (is ∙ ap (λ (zs : List ℤ). front ++ zs) (drop_more old i (pos 0) (omega (arith, h, e))))
    ∙ set_at front (get_or old i (pos 0)) (drop (i + 1) old) y i (length-take-le i xs (omega (arith, h)))
    ∙ sym (append_assoc front (y ∷ []) (drop (i + 1) old))
    ∙ ap (λ (zs : List ℤ). zs ++ drop (i + 1) old) (sym (take_more xs i (pos 0) h ∙ ap (λ (z : ℤ). front ++ z ∷ []) (sym g)))

rest_zeros : (n k : ℕ) (row rest front back : List ℤ) → row ≡ replicate (n + 2) (pos 0) → rest ≡ drop 1 row → front ≡ take n rest → back ≡ drop k front → back ≡ replicate (n - k) (pos 0)
rest_zeros n k row rest front back e f g h =
    let more : n + 2 ≡ suc (n + 1) = omega arith in
    h ∙ ap (drop k) (g ∙ ap (take n) (f ∙ ap (drop 1) (e ∙ ap (λ (m : ℕ). replicate m (pos 0)) more)) ∙ take-replicate n (n + 1) (pos 0) (omega arith)) ∙ drop-replicate k n (pos 0)

one_set : (xs : List ℤ) (y : ℤ) → length xs ≡ 1 → slice_set xs 0 y ≡ y ∷ []
one_set (x ∷ []) y e = refl
one_set _ y e = absurd (omega arith)

pub form_written : (n : ℕ) (c : List ℤ) (some : 1 ≤ length c) (narrow : length c ≤ n + 1) (front last : List ℤ) → front ≡ take (length c - 1) c → last ≡ drop (length c - 1) c
    → (row den rest middle back made_front made_last : List ℤ) → row ≡ replicate (n + 2) (pos 0) → length den ≡ 1 → rest ≡ drop 1 row → middle ≡ take n rest → back ≡ drop (length front) middle
    → made_front ≡ front → made_last ≡ last
    → slice_set den 0 (pos 1) ++ ((made_front ++ back) ++ made_last) ≡ numbers_of (form_row n (widen_to n c))
form_written n c some narrow front last is_front is_last row den rest middle back made_front made_last e one f g h a b =
    let wide : length front ≡ width c = ap length is_front ∙ length-take-le (length c - 1) c (omega arith) in
    let zeros : back ≡ replicate (n - width c) (pos 0) = rest_zeros n (length front) row rest middle back e f g h ∙ ap (λ (k : ℕ). replicate (n - k) (pos 0)) wide in
    rw (one_set den (pos 1) one, a, b, zeros) (sym (form_numbers n c some narrow front last is_front is_last))
