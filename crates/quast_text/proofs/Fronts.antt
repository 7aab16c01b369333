-- Fractions that are being read.
use Rattle.quast_text.proofs.Words.{◌≡◌, ℕ, suc, ◌+◌, ◌-◌, ◌<◌, List, refl, arith, fractions, one_more, next_fraction}

pub fractions_more : (bytes : List ℕ) (count i place : ℕ) → i < count → fractions bytes (count - i) place ≡ one_more (next_fraction bytes place) (λ at. fractions bytes (count - (i + 1)) at)
fractions_more bytes count i place h = let left : count - i ≡ suc (count - (i + 1)) = omega arith in rw left refl
