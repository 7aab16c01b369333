-- Numbers as code holds them: written to bits and read back.
use Rattle.affine_forms.proofs.Words.{◌≡◌, ◌^◌, ℤ, pos, FitsSigned, ◌-ℤ◌, neg_ℤ, to_z, of_z, unsigned_abs, arith, w128, ints, to_z-of_z, fits_signed_from_abs, ltb-true, floor_mod, fits-neg, Fits}

pub held : (z : ℤ) → Fits z → to_z w128 (of_z w128 z) ≡ z
held z f = to_z-of_z w128 z (fits_signed_from_abs w128 z (ltb-true (unsigned_abs z) (2 ^ 127) f))

pub held_fits : (z : ℤ) → Fits z → Fits (to_z w128 (of_z w128 z))
held_fits z f = rw (held z f) f

-- ---- what quotients leave

opposite : (z : ℤ) → pos 0 -ℤ z ≡ neg_ℤ z
opposite z = omega (arith, ints)

-- the opposite of what is held is held
pub opposite_kept : (x : ℤ) → Fits x → FitsSigned w128 (pos 0 -ℤ to_z w128 (of_z w128 x))
opposite_kept x f = rw (held x f, opposite x) (fits_signed_from_abs w128 (neg_ℤ x) (ltb-true (unsigned_abs (neg_ℤ x)) (2 ^ 127) (fits-neg x f)))

pub opposite_fits : (x : ℤ) → Fits x → Fits (to_z w128 (of_z w128 (pos 0 -ℤ to_z w128 (of_z w128 x))))
opposite_fits x f = rw (held x f, opposite x) (held_fits (neg_ℤ x) (fits-neg x f))

-- r is what an entry x leaves, or its opposite
pub remainder_made : (x d r : ℤ) → Fits x → Fits r → r ≡ floor_mod (to_z w128 (of_z w128 x)) d → to_z w128 (of_z w128 r) ≡ floor_mod x d
remainder_made x d r f g e = rw (held r g, ← held x f) e

pub residue_made : (x d r : ℤ) → Fits x → Fits r → r ≡ floor_mod (to_z w128 (of_z w128 (pos 0 -ℤ to_z w128 (of_z w128 x)))) d → to_z w128 (of_z w128 r) ≡ floor_mod (neg_ℤ x) d
residue_made x d r f g e = rw (held r g) (rw (held x f, opposite x, held (neg_ℤ x) (fits-neg x f)) at e)
