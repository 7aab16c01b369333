-- The tests of the definitions are those of the code.
use Rattle.std.proofs.Common.{◌≡◌, ap, ap₂, refl, sym, ◌∙◌, length, Bool, true, false, ◌&&◌, List, [], ◌∷◌, ℤ, pos, arith}
use Rattle.std.specs.List.{list_all}
use Rattle.std.proofs.Math.Bool.{and-false}
use Rattle.std.specs.Ordering.{int_eq}
use Rattle.std.specs.Cmp.Lexicographic.{pointwise}
use Rattle.std.proofs.lemmas.Bool.Decides.{Decides-int_eq}
use Rattle.pip_model.specs.Numbers.{is_zero, same_number}
use Rattle.pip_model.specs.Forms.{same_form}
use Rattle.pip_model.specs.Tree.{Component}
use Rattle.pip_model.specs.Simplified.{same_components}
use Rattle.pip_model.proofs.Tests.{is_zero_is, is_zero_yes, same_number_is, same_number-itself}

-- two tests that pass in the same cases
same_test : (b c : Bool) → (b ≡ true → c ≡ true) → (c ≡ true → b ≡ true) → b ≡ c
same_test true c f g = sym (f refl)
same_test false true f g = g refl
same_test false false f g = refl

pub is_zero_test : (x : ℤ) → int_eq x (pos 0) ≡ is_zero x
is_zero_test x =
    same_test (int_eq x (pos 0)) (is_zero x) (λ e. is_zero_yes x ((Decides-int_eq x (pos 0)).0 e)) (λ e. (Decides-int_eq x (pos 0)).1 (is_zero_is x e))

pub same_number_test : (x y : ℤ) → int_eq x y ≡ same_number x y
same_number_test x y =
    same_test (int_eq x y) (same_number x y) (λ e. rw ((Decides-int_eq x y).0 e) (same_number-itself y)) (λ e. (Decides-int_eq x y).1 (same_number_is x y e))

pub zeros_test : (xs : List ℤ) → list_all (λ x. int_eq x (pos 0)) xs ≡ list_all is_zero xs
zeros_test [] = refl
zeros_test (x ∷ xs) = ap₂ (λ (b c : Bool). b && c) (is_zero_test x) (zeros_test xs)

pub same_entries : (xs ys : List ℤ) → pointwise int_eq xs ys ≡ same_form xs ys
same_entries [] [] = refl
same_entries [] (y ∷ ys) = refl
same_entries (x ∷ xs) [] = refl
same_entries (x ∷ xs) (y ∷ ys) = ap₂ (λ (b c : Bool). b && c) (same_number_test x y) (same_entries xs ys)

-- lists of other lengths are not the same
pub other_lengths : (cs ds : List Component) → ¬ (length cs ≡ length ds) → false ≡ same_components cs ds
other_lengths [] [] h = absurd (h refl)
other_lengths [] (d ∷ ds) h = refl
other_lengths (c ∷ cs) [] h = refl
other_lengths (c ∷ cs) (d ∷ ds) h =
    let e = other_lengths cs ds (λ k. h (omega (arith, k))) in
    sym (and-false (same_number c.den d.den && same_form c.form d.form)) ∙ ap (λ b. same_number c.den d.den && same_form c.form d.form && b) e
