-- The number that digits spell only grows.
use Rattle.pip_words.proofs.Words.{arith, refl, ◌≡◌, ℕ, zero, suc, ◌+◌, ◌*◌, ◌-◌, ◌<◌, ◌≤◌, ◌&&◌, ◌==◌, ◌∷◌, List, [], Some, None, Bool, true, false, not, take, length, get_or, fold, if◌then◌else◌, list_all, is_digit, natural_of, number_of}
use Rattle.std.proofs.lemmas.Bool.{lt-leb}

-- the number that digits spell behind a number
abbrev from : ℕ → List ℕ → ℕ
from n = fold (λ k b. k * 10 + (b - 48)) n

grows : (n : ℕ) (xs : List ℕ) → n ≤ from n xs
grows n [] = omega arith
grows n (x ∷ xs) = omega (arith, grows (n * 10 + (x - 48)) xs)

passed : (n i : ℕ) (xs : List ℕ) → i < length xs → from n (take i xs) * 10 + (get_or xs i 0 - 48) ≤ from n xs
passed n i [] h = absurd (omega (arith, h))
passed n zero (x ∷ xs) h = grows (n * 10 + (x - 48)) xs
passed n (suc i) (x ∷ xs) h = passed (n * 10 + (x - 48)) i xs (omega arith)

none_of : (a b t : Bool) (n : ℕ) → t ≡ false → None ≡ (if a && (b && t) then Some n else None)
none_of true true t n e = rw e refl
none_of true false t n e = refl
none_of false b t n e = refl

-- a number that is already too big with one more digit spells no number
pub too_big : (most : ℕ) (text : List ℕ) (i : ℕ) → i < length text → most < natural_of (take i text) * 10 + (get_or text i 0 - 48) → None ≡ number_of most text
too_big most text i h big = none_of (not (length text == 0)) (list_all is_digit text) _ _ (lt-leb (natural_of text) most (omega (arith, passed 0 i text h)))
