-- The forms behind the known ones, and a sum that is divided by 1.
use Rattle.derivation_steps.proofs.Words.{◌≡◌, refl, ℕ, ℤ, pos, List, [], ◌∷◌, ◌++◌, Bool, Ok, Step, Spot, sum_of, after_step, is_absurd, ends_absurd, absurd_after, derived_from}
use Rattle.derivation_steps.proofs.Spreading.{not_divided}
use Rattle.pip_model.proofs.Gcd.{floor_divided_one}

-- the last of the known forms
pub ends_behind : (known : List (List ℤ)) (c : List ℤ) → ends_absurd (known ++ c ∷ []) ≡ is_absurd c
ends_behind (d ∷ e ∷ known) c = ends_behind (e ∷ known) c
ends_behind _ c = refl

pub absurd_made : (at : Spot) (w : ℕ) (known : List (List ℤ)) (s : Step) (c : List ℤ) (b : Bool) → after_step at w known s ≡ Ok (known ++ c ∷ []) → b ≡ is_absurd c → absurd_after at w known s ≡ Ok b
absurd_made at w known s c b e h = rw (e, h, ends_behind known c) refl

-- where it is divided by 1 the sum is the form
pub by_one : (at : Spot) (known : List (List ℤ)) (start now : List ℤ) (s : Step) → s.divisor ≡ pos 1 → sum_of at known start s.terms ≡ Ok now → derived_from at known start s ≡ Ok now
by_one at known start now s d e = rw (e, d, not_divided now, floor_divided_one now) refl
