-- The numbers of a row of lanes: the coefficients of n columns, and then the constant.
use Rattle.lane_rows.proofs.Words.{◌≡◌, ◌∙◌, ap, sym, ℕ, ◌+◌, ◌<◌, ◌≤◌, ℤ, pos, ◌≤ℤ◌, ◌-ℤ◌, ◌*ℤ◌, arith, subst, ◌⊎◌, inl, inr, length-set, List, [], ◌∷◌, ◌++◌, length, take, drop, length-append, length-drop, get_or-drop, length-take-le, take_at, drop_at, cases_eq, slice_set, entry, combine, scale, divided, eliminated, row_over, same_entries, scaled_made, entry-combine, entry-scale, length-combine, entry-set_same, entry-set_other, length-scale, numbers_of, turned, get_or_append_left, get_or-take, get_or_push}

pub front_entry : (n : ℕ) (xs : List ℤ) (y : ℕ) (z : ℤ) → y < n → n ≤ length xs → entry (take n xs ++ z ∷ []) y ≡ entry xs y
front_entry n xs y z h e = get_or_append_left (take n xs) (z ∷ []) (pos 0) y (omega (arith, h, length-take-le n xs e)) ∙ get_or-take n xs y (pos 0) h

pub last_entry : (n : ℕ) (xs : List ℤ) (z : ℤ) → n ≤ length xs → entry (take n xs ++ z ∷ []) n ≡ z
last_entry n xs z e = get_or_push (take n xs) z (pos 0) n (length-take-le n xs e)

behind : (n : ℕ) (x : List ℤ) → n < length x → n ≤ length (drop 1 x)
behind n x h = let e = length-drop 1 x in omega (arith, e, h)

pub coefficient : (n : ℕ) (x : List ℤ) (k : ℕ) → n < length x → k < n → entry (numbers_of n x) k ≡ entry x (k + 1)
coefficient n x k h lt = front_entry n (drop 1 x) k (entry x 0) lt (behind n x h) ∙ get_or-drop 1 x k (pos 0) ∙ ap (entry x) (omega arith)

pub constant_entry : (n : ℕ) (x : List ℤ) → n < length x → entry (numbers_of n x) n ≡ entry x 0
constant_entry n x h = last_entry n (drop 1 x) (entry x 0) (behind n x h)

pub numbers_long : (n : ℕ) (x : List ℤ) → n < length x → length (numbers_of n x) ≡ n + (0 + 1)
numbers_long n x h = let e = length-append (take n (drop 1 x)) (entry x 0 ∷ []) in let f = length-take-le n (drop 1 x) (behind n x h) in omega (arith, e, f)

pub coefficients_are : (n : ℕ) (x : List ℤ) → n < length x → take n (numbers_of n x) ≡ take n (drop 1 x)
coefficients_are n x h = take_at (take n (drop 1 x)) (entry x 0 ∷ []) n (length-take-le n (drop 1 x) (behind n x h))

pub constants_are : (n : ℕ) (x : List ℤ) → n < length x → drop n (numbers_of n x) ≡ entry x 0 ∷ []
constants_are n x h = drop_at (take n (drop 1 x)) (entry x 0 ∷ []) n (length-take-le n (drop 1 x) (behind n x h))

-- ---- what has the same entries has the same numbers

pub same_numbers : (n : ℕ) (x ys : List ℤ) → n < length x → length ys ≡ n + (0 + 1) → ((k : ℕ) → k < n → entry ys k ≡ entry x (k + 1)) → entry ys n ≡ entry x 0 → ys ≡ numbers_of n x
same_numbers n x ys h long each last = same_entries ys (numbers_of n x) (long ∙ sym (numbers_long n x h)) (λ k lt. by k (omega (arith, lt, long)) (cases_eq k n))
  where
    before : (k n : ℕ) → k < n + 1 → (k ≡ n → ⊥) → k < n
    before k n lt not = omega (arith, lt, not)

    by : (k : ℕ) → k < n + 1 → (k ≡ n) ⊎ (k ≡ n → ⊥) → entry ys k ≡ entry (numbers_of n x) k
    by k lt (inl is) = ap (entry ys) is ∙ last ∙ sym (constant_entry n x h) ∙ ap (entry (numbers_of n x)) (sym is)
    by k lt (inr not) = each k (before k n lt not) ∙ sym (coefficient n x k h (before k n lt not))

-- ---- the numbers of what is made of rows

pub numbers_scaled : (n : ℕ) (l : ℤ) (x : List ℤ) → n < length x → scale l (numbers_of n x) ≡ numbers_of n (scale l x)
numbers_scaled n l x h = same_numbers n (scale l x) (scale l (numbers_of n x)) (omega (arith, h, length-scale l x)) (length-scale l (numbers_of n x) ∙ numbers_long n x h)
    (λ k lt. entry-scale l (numbers_of n x) k ∙ ap (λ (z : ℤ). l *ℤ z) (coefficient n x k h lt) ∙ sym (entry-scale l x (k + 1)))
    (entry-scale l (numbers_of n x) n ∙ ap (λ (z : ℤ). l *ℤ z) (constant_entry n x h) ∙ sym (entry-scale l x 0))

combined_numbers : (n : ℕ) (a : ℤ) (x : List ℤ) (b : ℤ) (p : List ℤ) → n < length x → length x ≡ length p → combine a (numbers_of n x) b (numbers_of n p) ≡ numbers_of n (combine a x b p)
combined_numbers n a x b p h e =
    let inside : n < length p = omega (arith, h, e) in
    let long : length (numbers_of n x) ≡ length (numbers_of n p) = numbers_long n x h ∙ sym (numbers_long n p inside) in
    same_numbers n (combine a x b p) (combine a (numbers_of n x) b (numbers_of n p)) (omega (arith, h, length-combine a x b p e)) (length-combine a (numbers_of n x) b (numbers_of n p) long ∙ numbers_long n x h)
    (λ k lt. entry-combine a (numbers_of n x) b (numbers_of n p) k long
    ∙ ap (λ (z : ℤ). a *ℤ z -ℤ b *ℤ entry (numbers_of n p) k) (coefficient n x k h lt)
    ∙ ap (λ (z : ℤ). a *ℤ entry x (k + 1) -ℤ b *ℤ z) (coefficient n p k inside lt)
    ∙ sym (entry-combine a x b p (k + 1) e))
    (entry-combine a (numbers_of n x) b (numbers_of n p) n long
    ∙ ap (λ (z : ℤ). a *ℤ z -ℤ b *ℤ entry (numbers_of n p) n) (constant_entry n x h)
    ∙ ap (λ (z : ℤ). a *ℤ entry x 0 -ℤ b *ℤ z) (constant_entry n p inside)
    ∙ sym (entry-combine a x b p 0 e))

set_numbers : (n : ℕ) (x : List ℤ) (c : ℕ) (z : ℤ) → n < length x → c < n → slice_set (numbers_of n x) c z ≡ numbers_of n (slice_set x (c + 1) z)
set_numbers n x c z h lt = same_numbers n (slice_set x (c + 1) z) (slice_set (numbers_of n x) c z) (omega (arith, h, length-set x (c + 1) z)) (length-set (numbers_of n x) c z ∙ numbers_long n x h)
    (λ k inside. by k inside (cases_eq k c))
    (entry-set_other (numbers_of n x) c z n (λ is. absurd (omega (arith, lt, is))) ∙ constant_entry n x h ∙ sym (entry-set_other x (c + 1) z 0 (λ is. absurd (omega (arith, is)))))
  where
    by : (k : ℕ) → k < n → (k ≡ c) ⊎ (k ≡ c → ⊥) → entry (slice_set (numbers_of n x) c z) k ≡ entry (slice_set x (c + 1) z) (k + 1)
    by k inside (inl is) = ap (entry (slice_set (numbers_of n x) c z)) is ∙ entry-set_same (numbers_of n x) c z (omega (arith, lt, numbers_long n x h))
        ∙ sym (entry-set_same x (c + 1) z (omega (arith, lt, h))) ∙ ap (λ (j : ℕ). entry (slice_set x (c + 1) z) (j + 1)) (sym is)
    by k inside (inr not) = entry-set_other (numbers_of n x) c z k not ∙ coefficient n x k h inside ∙ sym (entry-set_other x (c + 1) z (k + 1) (λ is. not (omega (arith, is))))

-- the numbers of a row that is turned
pub numbers_turned : (n : ℕ) (l : ℤ) (p x : List ℤ) (c : ℕ) → n < length x → length x ≡ length p → c < n → turned l (numbers_of n p) c (numbers_of n x) ≡ numbers_of n (turned l p (c + 1) x)
numbers_turned n l p x c h e lt =
    let inside : n < length p = omega (arith, h, e) in
    ap (λ (a : ℤ). slice_set (combine a (numbers_of n x) (entry (numbers_of n x) c) (numbers_of n p)) c (entry (numbers_of n x) c *ℤ l)) (coefficient n p c inside lt)
    ∙ ap (λ (b : ℤ). slice_set (combine (entry p (c + 1)) (numbers_of n x) b (numbers_of n p)) c (b *ℤ l)) (coefficient n x c h lt)
    ∙ ap (λ (zs : List ℤ). slice_set zs c (entry x (c + 1) *ℤ l)) (combined_numbers n (entry p (c + 1)) x (entry x (c + 1)) p h e)
    ∙ set_numbers n (combine (entry p (c + 1)) x (entry x (c + 1)) p) c (entry x (c + 1) *ℤ l) (omega (arith, h, length-combine (entry p (c + 1)) x (entry x (c + 1)) p e)) lt

-- what scales to the turned lanes is the row after the pivot
pub row_turned : (n : ℕ) (l : ℤ) (p x y : List ℤ) (c : ℕ) → pos 1 ≤ℤ l → n < length x → length x ≡ length p → length y ≡ length x → c < n → pos 1 ≤ℤ entry p (c + 1) → scale l y ≡ turned l p (c + 1) x
    → divided (row_over n (entry p (c + 1)) (numbers_of n y)) ≡ eliminated (divided (row_over n l (numbers_of n p))) c (divided (row_over n l (numbers_of n x)))
row_turned n l p x y c h inside e long lt above made =
    let there : n < length p = omega (arith, inside, e) in
    let at = coefficient n p c there lt in
    ap (λ (a : ℤ). divided (row_over n a (numbers_of n y))) (sym at)
    ∙ scaled_made n l (numbers_of n p) c (numbers_of n x) (numbers_of n y) h lt (subst (λ (z : ℤ). pos 1 ≤ℤ z) (sym at) above)
    (numbers_long n x inside ∙ sym (numbers_long n p there))
    (numbers_scaled n l y (omega (arith, inside, long)) ∙ ap (numbers_of n) made ∙ sym (numbers_turned n l p x c inside e lt))
