-- All is whole over the denominator 1.
use Rattle.gomory_cut.proofs.Words.{◌≡◌, refl, ap, ◌∙◌, ℤ, pos, negsuc, true, arith, List, [], ◌∷◌, ints, floor_mod, is_whole}

mod_one : (z : ℤ) → floor_mod z (pos 1) ≡ pos 0
mod_one (pos n) = omega (arith, ints)
mod_one (negsuc n) = omega (arith, ints)

all_whole : (xs : List ℤ) → is_whole (pos 1) xs ≡ true
all_whole [] = refl
all_whole (x ∷ xs) = rw (mod_one x, all_whole xs) refl

pub whole_one : (d : ℤ) (xs : List ℤ) → d ≡ pos 1 → is_whole d xs ≡ true
whole_one d xs e = ap (λ z. is_whole z xs) e ∙ all_whole xs
