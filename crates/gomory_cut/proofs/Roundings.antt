-- The cut by a quotient, as it is made.
use Rattle.gomory_cut.proofs.Words.{◌≡◌, refl, ap, sym, ◌∙◌, ℕ, ◌+◌, ◌<◌, ℤ, pos, ◌+ℤ◌, neg_ℤ, arith, List, length, map, take, drop, ◌++◌, take_at, length-set, slice_set, ints, length-map, get_or-map, floor_mod, entry, negate, residue, width, Row, divided, residue_of, rounding, parametric_cut, constant_cut, All}
use Rattle.affine_forms.specs.Checks.{Fits}
use Rattle.tableau.specs.Rows.{IsRow}
use Rattle.tableau.specs.Tableaus.{row_from}
use Rattle.affine_forms.proofs.Units.{add_unit, widen_same}

from_zero : (z g : ℤ) → g ≡ pos 0 → neg_ℤ g +ℤ z ≡ z
from_zero z g e = omega (arith, ints, e)

rounding_made : (r : Row) (w q : ℕ) → length r.constant ≡ w + 1 → q < w → entry (residue r.den r.constant) q ≡ pos 0
    → slice_set (negate (residue r.den r.constant)) q r.den ≡ rounding (width r.constant) q (residue_of r)
rounding_made r w q e h free =
    let g = residue r.den r.constant in
    let width_is : width r.constant ≡ w = omega (arith, e) in
    let long : length g ≡ w + 1 = simp length-map e in
    let at : entry (negate g) q ≡ neg_ℤ (entry g q) = get_or-map neg_ℤ g q (pos 0) (pos 0) (omega (arith, long, h)) in
    let one : entry (negate g) q +ℤ r.den ≡ r.den = ap (λ z. z +ℤ r.den) at ∙ from_zero r.den (entry g q) free in
    rw (width_is, widen_same w g long)
    (ap (λ z. slice_set (negate g) q z) (sym one) ∙ sym (add_unit (negate g) w q r.den (simp length-map e) (omega (arith, h))))

pub parametric_made : (r v : Row) (w q : ℕ) (coefs g made : List ℤ) → v ≡ r → length v.constant ≡ w + 1 → q < w → g ≡ residue r.den r.constant → entry g q ≡ pos 0
    → coefs ≡ map (λ x. floor_mod x v.den) v.coefs → made ≡ slice_set (negate g) q v.den
    → divided (row_from v.den coefs made) ≡ parametric_cut r q
parametric_made r v w q coefs g made same e h is free a b =
    let long : length r.constant ≡ w + 1 = ap (λ (x : Row). length x.constant) (sym same) ∙ e in
    let zero : entry (residue r.den r.constant) q ≡ pos 0 = ap (λ (xs : List ℤ). entry xs q) (sym is) ∙ free in
    rw (b, a, is, same, rounding_made r w q long h zero) refl

-- its numbers are as many as the row's
pub residue_long : (r v : Row) (w : ℕ) (g : List ℤ) → v ≡ r → length v.constant ≡ w + 1 → g ≡ residue r.den r.constant → length g ≡ w + 1
residue_long r v w g same e is = rw is (simp length-map (ap (λ (x : Row). length x.constant) (sym same) ∙ e))

pub set_long : (r v : Row) (q : ℕ) (d : ℤ) (g made : List ℤ) → v ≡ r → g ≡ residue r.den r.constant → made ≡ slice_set (negate g) q d → length made ≡ length v.constant
set_long r v q d g made same is b = rw (b, is, same) (simp (length-set, length-map) refl)

-- ---- the cut by a constant

pub constant_made : (r v : Row) (coefs g made : List ℤ) → v ≡ r → g ≡ residue r.den r.constant → coefs ≡ map (λ x. floor_mod x v.den) v.coefs → made ≡ negate g
    → divided (row_from v.den coefs made) ≡ constant_cut r
constant_made r v coefs g made same is a b = rw (b, a, is, same) refl

-- what stands in a list of which all n numbers were negated
pub negated_whole : (n : ℕ) (xs ys new made : List ℤ) → made ≡ take n (new ++ drop (length new) xs) → ys ≡ xs → length ys ≡ n → new ≡ negate ys → made ≡ negate xs
negated_whole n xs ys new made e same l is =
    let long : length new ≡ n = ap (λ (zs : List ℤ). length zs) is ∙ simp length-map l in
    e ∙ take_at new (drop (length new) xs) n long ∙ is ∙ ap negate same

-- what is left of a row's numbers is a row
pub left_row : (n w : ℕ) (v : Row) (coefs made : List ℤ) → IsRow n w v → coefs ≡ map (λ x. floor_mod x v.den) v.coefs → length made ≡ length v.constant
    → All Fits coefs → All Fits made → IsRow n w (row_from v.den coefs made)
left_row n w v coefs made h a long fit fits = record {
  positive = h.positive;
  den_fits = h.den_fits;
  coefs = ap (λ (xs : List ℤ). length xs) a ∙ simp length-map h.coefs;
  constant = long ∙ h.constant;
  coefs_fit = fit;
  constant_fit = fits;
}
