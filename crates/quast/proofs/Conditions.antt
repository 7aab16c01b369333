-- Tests that are true, and what they tell.
use Rattle.quast.proofs.Words.{◌≡◌, ◌≤◌, ◌+◌, ℕ, ℤ, pos, ◌≤ℤ◌, refl, sym, arith, Bool, true, IsTrue, List, [], ◌∷◌, length, eqb-true, ints, and_from, All-head, All-tail, All, nat_le, int_le, list_all, fits, all_fit, is_form, Fits}
use Rattle.std.proofs.lemmas.Bool.Decides.{nat_tests}

pub is_form_from : (w : ℕ) (v : List ℤ) → length v ≡ w + 1 → IsTrue (is_form w v)
is_form_from w v e = grind (arith, nat_tests)

pub form_length : (w : ℕ) (v : List ℤ) → IsTrue (is_form w v) → length v ≡ w + 1
form_length w v h = eqb-true (length v) (w + 1) h

pub nat_le_from : (a b : ℕ) → a ≤ b → IsTrue (nat_le a b)
nat_le_from a b h = grind (arith, nat_tests)

pub one_le_from : (d : ℤ) → pos 1 ≤ℤ d → IsTrue (int_le (pos 1) d)
one_le_from d h = let e : true ≡ int_le (pos 1) d = omega (arith, ints) in sym e

-- all of a list pass a test
pub list_all_from : {X : Type 0} (P : X → Type 0) (test : X → Bool) (xs : List X) → ((x : X) → P x → IsTrue (test x)) → All P xs → IsTrue (list_all test xs)
list_all_from P test [] f h = refl
list_all_from P test (x ∷ xs) f h = and_from (test x) (list_all test xs) (f x (All-head P x xs h)) (list_all_from P test xs f (All-tail P x xs h))

pub all_fit_from : (v : List ℤ) → All Fits v → IsTrue (all_fit v)
all_fit_from v h = list_all_from Fits fits v (λ x p. p) h
