-- Sums with a form that has one coefficient alone.
use Rattle.affine_forms.proofs.Words.{◌≡◌, refl, ap, ◌∙◌, ℕ, zero, suc, ◌+◌, ◌-◌, ◌≤◌, ℤ, pos, ◌+ℤ◌, neg_ℤ, arith, List, [], ◌∷◌, ◌++◌, length, replicate, slice_set, ints, entry, add, negate, constant_form, unit_form}
pub use Rattle.pip_model.proofs.Forms.{widen_same}

plus_zero : (x : ℤ) → x +ℤ pos 0 ≡ x
plus_zero x = omega (arith, ints)

add_zeros : (xs : List ℤ) (n : ℕ) → length xs ≡ n → add xs (replicate n (pos 0)) ≡ xs
add_zeros [] n e = refl
add_zeros (x ∷ xs) zero e = absurd (omega arith)
add_zeros (x ∷ xs) (suc n) e = rw (plus_zero x, add_zeros xs n (omega arith)) refl

add_one : (xs : List ℤ) (q n : ℕ) (z : ℤ) → length xs ≡ q + 1 + n → add xs (replicate q (pos 0) ++ z ∷ replicate n (pos 0)) ≡ slice_set xs q (entry xs q +ℤ z)
add_one [] q n z e = absurd (omega arith)
add_one (x ∷ xs) zero n z e = rw (add_zeros xs n (omega arith)) refl
add_one (x ∷ xs) (suc q) n z e = rw (plus_zero x, add_one xs q n z (omega arith)) refl

-- the constant grows
pub add_last : (xs : List ℤ) (w : ℕ) (z : ℤ) → length xs ≡ w + 1 → add xs (constant_form w z) ≡ slice_set xs w (entry xs w +ℤ z)
add_last xs w z e = add_one xs w 0 z (omega arith)

-- one entry grows
pub add_unit : (xs : List ℤ) (w q : ℕ) (z : ℤ) → length xs ≡ w + 1 → q ≤ w → add xs (unit_form w q z) ≡ slice_set xs q (entry xs q +ℤ z)
add_unit xs w q z e h = add_one xs q (w - q) z (omega arith)

-- ---- a sum with the opposite

back : (t g u : ℤ) → t +ℤ neg_ℤ (neg_ℤ g +ℤ u) ≡ (t +ℤ g) +ℤ neg_ℤ u
back t g u = omega (arith, ints)

negate_zeros : (n : ℕ) → negate (replicate n (pos 0)) ≡ replicate n (pos 0)
negate_zeros zero = refl
negate_zeros (suc n) = ap (λ (xs : List ℤ). pos 0 ∷ xs) (negate_zeros n)

-- t - (-g + u) is (t + g) - u
pub add_back : (ts gs us : List ℤ) → length ts ≡ length gs → length gs ≡ length us → add ts (negate (add (negate gs) us)) ≡ add (add ts gs) (negate us)
add_back [] [] us e f = refl
add_back (t ∷ ts) (g ∷ gs) (u ∷ us) e f = rw (back t g u, add_back ts gs us (omega arith) (omega arith)) refl
add_back _ _ _ e f = absurd (omega arith)

negate_append : (xs ys : List ℤ) → negate (xs ++ ys) ≡ negate xs ++ negate ys
negate_append [] ys = refl
negate_append (x ∷ xs) ys = ap (λ (rest : List ℤ). neg_ℤ x ∷ rest) (negate_append xs ys)

pub negate_unit : (w q : ℕ) (z : ℤ) → negate (unit_form w q z) ≡ unit_form w q (neg_ℤ z)
negate_unit w q z =
    negate_append (replicate q (pos 0)) (z ∷ replicate (w - q) (pos 0))
    ∙ ap (λ (xs : List ℤ). xs ++ neg_ℤ z ∷ negate (replicate (w - q) (pos 0))) (negate_zeros q)
    ∙ ap (λ (xs : List ℤ). replicate q (pos 0) ++ neg_ℤ z ∷ xs) (negate_zeros (w - q))
