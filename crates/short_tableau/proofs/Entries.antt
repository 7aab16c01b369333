-- A number of a row by its place among all numbers.
use Rattle.short_tableau.proofs.Words.{sym, refl, negsuc, true, false, is_nonneg, int_lt, ◌≡◌, ◌∙◌, ap, ℕ, zero, suc, ◌+◌, ◌-◌, ◌*◌, ◌<◌, ◌≤◌, ℤ, pos, List, length, take, drop, arith, length-drop, get_or-drop, get_or-take, length-take-le, suc-mul, constant, entry, row_at, row_size, rows_in}

pub not_below : (z r : ℤ) → z ≡ r → int_lt z (pos 0) ≡ false → is_nonneg r ≡ true
not_below z (pos n) e h = refl
not_below z (negsuc n) e h = let g : int_lt (negsuc n) (pos 0) ≡ false = ap (λ x. int_lt x (pos 0)) (sym e) ∙ h in absurd cc

rest_long : (l i k z : ℕ) → z ≡ suc k * l → z - l ≡ k * l
rest_long l i k z e = let whole = suc-mul k l in omega (arith, e, whole)

next_place : (l i j : ℕ) → l + (i * l + j) ≡ suc i * l + j
next_place l i j = let whole = suc-mul i l in omega (arith, whole)

first_long : (l k z : ℕ) → z ≡ suc k * l → l ≤ z
first_long l k z e = let whole = suc-mul k l in omega (arith, e, whole)

pub constant_here : (n k i : ℕ) (zs : List ℤ) → length zs ≡ k * row_size n → i < k → constant (row_at (rows_in n k zs) i).constant ≡ entry zs (i * row_size n + (n + 1))
constant_here n zero i zs size lt = absurd (omega arith)
constant_here n (suc k) zero zs size lt =
    let row = take (row_size n) zs in
    let long : length row ≡ n + 2 = length-take-le (row_size n) zs (first_long (row_size n) k (length zs) size) in
    let behind : length (drop n (drop 1 row)) ≡ length row - 1 - n = length-drop n (drop 1 row) ∙ ap (λ (m : ℕ). m - n) (length-drop 1 row) in
    ap (entry (drop n (drop 1 row))) (omega (arith, behind, long))
    ∙ get_or-drop n (drop 1 row) 0 (pos 0)
    ∙ get_or-drop 1 row (n + 0) (pos 0)
    ∙ get_or-take (row_size n) zs (1 + (n + 0)) (pos 0) (omega arith)
    ∙ ap (entry zs) (omega arith)
constant_here n (suc k) (suc i) zs size lt =
    let l = row_size n in
    constant_here n k i (drop l zs) (length-drop l zs ∙ rest_long l i k (length zs) size) (omega arith)
    ∙ get_or-drop l zs (i * l + (n + 1)) (pos 0)
    ∙ ap (entry zs) (next_place l i (n + 1))

pub coef_here : (n k i c : ℕ) (zs : List ℤ) → length zs ≡ k * row_size n → i < k → c < n → entry (row_at (rows_in n k zs) i).coefs c ≡ entry zs (i * row_size n + (1 + c))
coef_here n zero i c zs size lt inside = absurd (omega arith)
coef_here n (suc k) zero c zs size lt inside =
    let row = take (row_size n) zs in
    get_or-take n (drop 1 row) c (pos 0) inside
    ∙ get_or-drop 1 row c (pos 0)
    ∙ get_or-take (row_size n) zs (1 + c) (pos 0) (omega arith)
    ∙ ap (entry zs) (omega arith)
coef_here n (suc k) (suc i) c zs size lt inside =
    let l = row_size n in
    coef_here n k i c (drop l zs) (length-drop l zs ∙ rest_long l i k (length zs) size) (omega arith) inside
    ∙ get_or-drop l zs (i * l + (1 + c)) (pos 0)
    ∙ ap (entry zs) (next_place l i (1 + c))
