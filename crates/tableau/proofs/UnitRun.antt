-- The run from which the rows of columns are lent.
use Rattle.std.proofs.Math.Seq.{take-add}
use Rattle.tableau.proofs.Words.{◌≡◌, refl, ap, sym, ◌∙◌, ℕ, suc, ◌+◌, ◌-◌, ◌<◌, ◌≤◌, ℤ, pos, List, [], ◌∷◌, ◌++◌, length, take, drop, replicate, arith, max, append_assoc, length-append, slice_set, drop-append-le, drop-replicate, take-replicate, length-replicate, drop_at, take_at, length_push, unit_row, unit_run, unit_parts}

-- from n - c on the run has the coefficients of column c
pub lent_coefs : (n w c : ℕ) → c < n → take n (drop (n - c) (unit_run n w)) ≡ slice_set (replicate n (pos 0)) c (pos 1)
lent_coefs n w c h =
    let zs = replicate (max n (w + 1)) (pos 0) in
    let short : n - c ≤ length (replicate n (pos 0)) = simp length-replicate (omega arith) in
    let left : n - (n - c) ≡ c = omega arith in
    let begun : drop (n - c) (unit_run n w) ≡ replicate c (pos 0) ++ pos 1 ∷ zs
    = drop-append-le (n - c) (replicate n (pos 0)) (pos 1 ∷ zs) short ∙ ap (λ (xs : List ℤ). xs ++ pos 1 ∷ zs) (drop-replicate (n - c) n (pos 0) ∙ ap (λ k. replicate k (pos 0)) left) in
    ap (take n) begun
    ∙ ap (λ k. take k (replicate c (pos 0) ++ pos 1 ∷ zs)) (omega arith)
    ∙ take-add c (suc (n - (c + 1))) (replicate c (pos 0) ++ pos 1 ∷ zs)
    ∙ rw (take_at (replicate c (pos 0)) (pos 1 ∷ zs) c (length-replicate c (pos 0)), drop_at (replicate c (pos 0)) (pos 1 ∷ zs) c (length-replicate c (pos 0))) refl
    ∙ ap (λ (xs : List ℤ). replicate c (pos 0) ++ pos 1 ∷ xs) (take-replicate (n - (c + 1)) (max n (w + 1)) (pos 0) (omega arith))
    ∙ sym (unit_parts n c h)

-- behind the 1 are the entries of a constant form of zeros
pub lent_constant : (n w : ℕ) → take (w + 1) (drop (n + 1) (unit_run n w)) ≡ replicate (w + 1) (pos 0)
lent_constant n w =
    let zs = replicate (max n (w + 1)) (pos 0) in
    let long : length (replicate n (pos 0) ++ pos 1 ∷ []) ≡ n + 1 = length_push (replicate n (pos 0)) (pos 1) ∙ ap (λ k. k + 1) (length-replicate n (pos 0)) in
    ap (take (w + 1)) (ap (drop (n + 1)) (sym (append_assoc (replicate n (pos 0)) (pos 1 ∷ []) zs)) ∙ drop_at (replicate n (pos 0) ++ pos 1 ∷ []) zs (n + 1) long)
    ∙ take-replicate (w + 1) (max n (w + 1)) (pos 0) (omega arith)

pub length_run : (n w : ℕ) (zs : List ℤ) → zs ≡ unit_run n w → length zs ≡ n + suc (max n (w + 1))
length_run n w zs e = ap length e ∙ simp (length-append, length-replicate) refl

pub lent_unit : (n w c : ℕ) (coefs constant : List ℤ) → c < n → coefs ≡ take n (drop (n - c) (unit_run n w)) → constant ≡ take (w + 1) (drop (n + 1) (unit_run n w))
    → record { den = pos 1; coefs = coefs; constant = constant } ≡ unit_row n w c
lent_unit n w c coefs constant h e f = rw (e, f, lent_coefs n w c h, lent_constant n w) refl

pub run_made : (n w k : ℕ) (zs : List ℤ) → zs ≡ replicate k (pos 0) → k ≡ n + 1 + max n (w + 1) → slice_set zs n (pos 1) ≡ unit_run n w
run_made n w k zs e f =
    let left : k - (n + 1) ≡ max n (w + 1) = omega arith in
    ap (λ (xs : List ℤ). slice_set xs n (pos 1)) e ∙ unit_parts k n (omega arith) ∙ ap (λ j. replicate n (pos 0) ++ pos 1 ∷ replicate j (pos 0)) left
