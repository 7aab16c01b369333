-- The numbers of a row.
use Rattle.row_laws.proofs.Words.{◌≡◌, refl, ap, ◌∙◌, subst, ℕ, ◌-◌, ◌<◌, ℤ, List, [], ◌∷◌, ◌++◌, length, take, arith, slice_set, take_at, drop_at, take-append-drop, Row, numbers_of, row_of_numbers, IsRow, row_from}

-- the numbers that a row's parts make
pub made : (zs coefs constant : List ℤ) (d : ℤ) (r : Row) → 0 < length zs → row_from d coefs constant ≡ r → slice_set (take 1 zs) 0 d ++ (coefs ++ constant) ≡ numbers_of r
made [] coefs constant d r h e = absurd (omega arith)
made (z ∷ zs) coefs constant d r h e = ap numbers_of e

pub row_again : (n : ℕ) (r : Row) → length r.coefs ≡ n → row_of_numbers n (numbers_of r) ≡ r
row_again n r e = rw (take_at r.coefs r.constant n e, drop_at r.coefs r.constant n e) refl

pub numbers_again : (n : ℕ) (zs : List ℤ) → 0 < length zs → numbers_of (row_of_numbers n zs) ≡ zs
numbers_again n [] h = absurd (omega arith)
numbers_again n (z ∷ zs) h = ap (λ (rest : List ℤ). z ∷ rest) (take-append-drop n zs)

-- a row over the columns and places of another
pub row_over : (n w : ℕ) (r made s : Row) (coefs constant : List ℤ) → coefs ≡ r.coefs → constant ≡ r.constant → made ≡ s
    → IsRow (length coefs) (length constant - 1) made → IsRow n w r → IsRow n w s
row_over n w r made s coefs constant e f g h given =
    let one : length coefs ≡ n = ap length e ∙ given.coefs in
    let two : length constant - 1 ≡ w = omega (arith, ap length f, given.constant) in
    subst (λ k. IsRow k w s) one (subst (λ k. IsRow (length coefs) k s) two (subst (IsRow (length coefs) (length constant - 1)) g h))
