-- The opposite of a form: its parts, its width, and its opposite.
use Rattle.sign_split.proofs.Words.{rules, ◌≡◌, refl, ap, ap₂, sym, subst, ◌∙◌, ◌≤◌, ℤ, pos, ◌-ℤ◌, neg_ℤ, arith, List, [], ◌∷◌, ◌++◌, length, length-append, slice_set, IsTrue, ints, map-append, coefficients, constant, width, negate, opposite, all_fit, opposite_listed, form-parts, length_map, length-opposite, entry_end, constant-end}
use Rattle.std.proofs.lemmas.List.Elements.{All-get_or}
use Rattle.std.proofs.Math.IntN.{neg_ℤ-neg_ℤ}
use Rattle.std.proofs.Math.Seq.{set-append_seam}
use Rattle.affine_forms.specs.Checks.{Fits}
use Rattle.affine_forms.specs.Forms.{IsForm}
use Rattle.affine_forms.proofs.Opposites.{opposite_set}

-- coefficients, and a constant
abbrev pub form_of : List ℤ → ℤ → List ℤ
form_of cs k = cs ++ k ∷ []

pub opposite_form : (cs : List ℤ) (k : ℤ) → opposite (form_of cs k) ≡ form_of (negate cs) (neg_ℤ k -ℤ pos 1)
opposite_form cs k =
    let less = neg_ℤ k -ℤ pos 1 in
    sym (opposite_set (form_of cs k) (length cs) (simp length-append refl))
    ∙ ap (λ (x : ℤ). slice_set (negate (form_of cs k)) (length cs) (neg_ℤ x -ℤ pos 1)) (entry_end cs k [])
    ∙ ap (λ (xs : List ℤ). slice_set xs (length cs) less) (map-append neg_ℤ cs (k ∷ []))
    ∙ ap (λ l. slice_set (form_of (negate cs) (neg_ℤ k)) l less) (sym (length_map neg_ℤ cs))
    ∙ set-append_seam (negate cs) (neg_ℤ k) [] less

-- as wide as the form
pub opposite_length : (c : List ℤ) → length (opposite c) ≡ length c
opposite_length [] = refl
opposite_length (x ∷ c) = length-opposite (x ∷ c) (omega arith)

-- ---- the opposite of the opposite

back : (k : ℤ) → neg_ℤ (neg_ℤ k -ℤ pos 1) -ℤ pos 1 ≡ k
back k = omega (arith, ints)

pub negate_twice : (c : List ℤ) → negate (negate c) ≡ c
negate_twice [] = refl
negate_twice (x ∷ xs) = ap₂ (λ (y : ℤ) (ys : List ℤ). y ∷ ys) (neg_ℤ-neg_ℤ x) (negate_twice xs)

module _ (c : List ℤ) (some : 1 ≤ length c) where
  parts : c ≡ form_of (coefficients c) (constant c)
  parts = (form-parts (width c) c (omega arith)).0

  abbrev cs : List ℤ
  cs = coefficients c

  abbrev k : ℤ
  k = constant c

  turned : opposite c ≡ form_of (negate cs) (neg_ℤ k -ℤ pos 1)
  turned = ap opposite parts ∙ opposite_form cs k

  opposite_twice : opposite (opposite c) ≡ c
  opposite_twice = ap opposite turned ∙ opposite_form (negate cs) (neg_ℤ k -ℤ pos 1) ∙ ap₂ form_of (negate_twice cs) (back k) ∙ sym parts

  -- so its listed number is the form's constant
  constant_back : neg_ℤ (constant (opposite c)) -ℤ pos 1 ≡ constant c
  constant_back = ap (λ (x : List ℤ). neg_ℤ (constant x) -ℤ pos 1) turned ∙ ap (λ (z : ℤ). neg_ℤ z -ℤ pos 1) (constant-end (negate cs) (neg_ℤ k -ℤ pos 1)) ∙ back k

  opposite_fits_back : IsForm c → IsTrue (all_fit (opposite_listed (opposite c)))
  opposite_fits_back is = rw constant_back (search (rules, (All-get_or Fits c (width c) (pos 0) (omega (arith, is.some)) is.fits)))

-- a form that is turned twice
pub turned_back : (c below now : List ℤ) → IsForm c → below ≡ opposite c → now ≡ opposite below → now ≡ c
turned_back c below now is first second = second ∙ ap opposite first ∙ opposite_twice c (omega (arith, is.some))

-- and its opposite is turned back without overflow
pub back_fits : (c below : List ℤ) → IsForm c → below ≡ opposite c → IsTrue (all_fit (opposite_listed below))
back_fits c below is first = subst (λ (x : List ℤ). IsTrue (all_fit (opposite_listed x))) (sym first) (opposite_fits_back c (omega (arith, is.some)) is)
