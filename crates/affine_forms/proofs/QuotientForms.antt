-- The form of a quotient, `-g + d*q`, and the form with a number added, as they are made in place.
use Rattle.affine_forms.proofs.Words.{◌≡◌, ℕ, ◌+◌, ◌-◌, ◌<◌, ◌≤◌, ℤ, pos, ◌+ℤ◌, neg_ℤ, List, length, [], ◌∷◌, refl, IsTrue, IsFalse, all_fit, fits, ap, sym, ◌∙◌, arith, slice_set, ints, length-map, get_or-map, width, constant, entry, negate, plus, widen_to, IsChecked, Overflow, is_overflow, Result, IsErr, ⊤}
use Rattle.pip_model.specs.Cuts.{rounding}
use Rattle.pip_model.proofs.Forms.{length-widened, entry-widened, constant-plus}
use Rattle.affine_forms.proofs.Units.{add_unit, add_last}
use Rattle.affine_forms.proofs.Combined.{refused}

from_zero : (z g : ℤ) → g ≡ pos 0 → neg_ℤ g +ℤ z ≡ z
from_zero z g e = omega (arith, ints, e)

pub rounding_is : (w q : ℕ) (g : List ℤ) (d : ℤ) → width g ≤ w → q < w → (q < width g → entry g q ≡ pos 0)
    → slice_set (negate (widen_to w g)) q d ≡ rounding w q (record { form = g; den = d })
rounding_is w q g d h lt free =
    let wide = widen_to w g in
    let long : length wide ≡ w + 1 = length-widened w g h in
    let at : entry (negate wide) q ≡ neg_ℤ (entry wide q) = get_or-map neg_ℤ wide q (pos 0) (pos 0) (omega (arith, long, lt)) in
    let one : entry (negate wide) q +ℤ d ≡ d = ap (λ z. z +ℤ d) at ∙ from_zero d (entry wide q) (entry-widened w g h q lt free) in
    ap (λ z. slice_set (negate wide) q z) (sym one) ∙ sym (add_unit (negate wide) w q d (simp length-map long) (omega (arith, lt)))

pub plus_made : (c : List ℤ) (z v : ℤ) → 0 < length c → v ≡ entry c (length c - 1) +ℤ z → slice_set c (length c - 1) v ≡ plus c z
plus_made c z v h e = ap (λ x. slice_set c (length c - 1) x) e ∙ (sym (add_last c (width c) z (omega (arith, h))))

pub constant_refused : (c : List ℤ) (z : ℤ) (r : Result ⊤ Overflow) → 0 < length c → IsErr r → IsFalse (fits (entry c (length c - 1) +ℤ z))
    → IsChecked is_overflow (constant (plus c z) ∷ []) r
constant_refused c z r h e over = refused is_overflow r (constant (plus c z) ∷ []) e (rw (constant-plus c z (omega (arith, h)), over) refl)

pub constant_fits : (c : List ℤ) (z : ℤ) → 0 < length c → IsTrue (fits (entry c (length c - 1) +ℤ z)) → IsTrue (all_fit (constant (plus c z) ∷ []))
constant_fits c z h fit = rw (constant-plus c z (omega (arith, h)), fit) refl
