-- Tightening, by the size of the divisor.
use Rattle.affine_forms.proofs.Words.{◌≡◌, refl, sym, zero, suc, ℤ, pos, ◌≤ℤ◌, ◌<ℤ◌, arith, List, ints, if◌then◌else◌, gcd_of, is_zero, coefficients, floor_divided, tighten, floor_divided_one}

by_divisor : (e : ℤ) (c : List ℤ) → pos 1 <ℤ e → (if is_zero e then c else floor_divided e c) ≡ floor_divided e c
by_divisor (pos zero) c h = absurd (omega (arith, ints))
by_divisor _ c h = refl

by_none : (e : ℤ) (c : List ℤ) → pos 0 ≤ℤ e → e ≤ℤ pos 1 → (if is_zero e then c else floor_divided e c) ≡ c
by_none (pos zero) c l h = refl
by_none (pos (suc zero)) c l h = floor_divided_one c
by_none _ c l h = absurd (omega (arith, ints))

pub tighten_divided : (e : ℤ) (c : List ℤ) → e ≡ gcd_of (coefficients c) → pos 1 <ℤ e → floor_divided e c ≡ tighten c
tighten_divided e c is h = rw is (sym (by_divisor (gcd_of (coefficients c)) c (rw is at h)))

pub tighten_kept : (e : ℤ) (c : List ℤ) → e ≡ gcd_of (coefficients c) → pos 0 ≤ℤ e → e ≤ℤ pos 1 → tighten c ≡ c
tighten_kept e c is l h = by_none (gcd_of (coefficients c)) c (rw is at l) (rw is at h)
