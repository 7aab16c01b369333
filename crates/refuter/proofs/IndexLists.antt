-- Lists of indices, one behind the other.
use Rattle.refuter.proofs.Words.{◌≡◌, ap, ◌∙◌, ℕ, zero, suc, ◌+◌, ℤ, pos, List, [], ◌∷◌, ◌++◌, arith, indices}

-- one index more
pub indices-last : (i n : ℕ) → indices i (n + 1) ≡ indices i n ++ pos (i + n) ∷ []
indices-last i n = let s : n + 1 ≡ suc n = omega arith in ap (indices i) s ∙ more i n
  where
    more : (i n : ℕ) → indices i (suc n) ≡ indices i n ++ pos (i + n) ∷ []
    more i zero = ap (λ (k : ℕ). pos k ∷ []) (let e : i ≡ i + 0 = omega arith in e)
    more i (suc n) = ap (λ (xs : List ℤ). pos i ∷ xs) (more (i + 1) n) ∙ ap (λ (k : ℕ). pos i ∷ (indices (i + 1) n ++ pos k ∷ [])) (let e : i + 1 + n ≡ i + suc n = omega arith in e)
