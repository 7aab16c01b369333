-- Words byte by byte.
use Rattle.std.proofs.Common.{◌≡◌, refl, ap, ℕ, List, [], ◌∷◌, ◌&&◌, ◌==◌, nat_eq}
use Rattle.std.specs.Cmp.Lexicographic.{pointwise}
use Rattle.pip_model.specs.Tokens.{same_bytes}

pub same_bytes_is : (xs ys : List ℕ) → pointwise nat_eq xs ys ≡ same_bytes xs ys
same_bytes_is [] [] = refl
same_bytes_is [] (y ∷ ys) = refl
same_bytes_is (x ∷ xs) [] = refl
same_bytes_is (x ∷ xs) (y ∷ ys) = ap (λ b. (x == y) && b) (same_bytes_is xs ys)
