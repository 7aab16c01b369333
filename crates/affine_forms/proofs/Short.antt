-- Products of numbers of 64 bits.
use Rattle.affine_forms.proofs.Words.{◌≡◌, ◌^◌, ◌-◌, ◌<◌, ℤ, ◌*ℤ◌, unsigned_abs, arith, unsigned_abs-mul, to_z, of_z, to_z-of_z, fits_signed_from_abs, FitsSigned, w64, w128, lt-ltb, Fits}
use Rattle.std.proofs.lemmas.Nat.{mul-le}

pub product_fits : (a b : ℤ) → unsigned_abs a < 2 ^ 63 → unsigned_abs b < 2 ^ 63 → unsigned_abs (a *ℤ b) < 2 ^ 126
product_fits a b x y =
    let small = mul-le (unsigned_abs a) (unsigned_abs b) (2 ^ 63 - 1) (2 ^ 63 - 1) (omega arith) (omega arith) in
    rw (unsigned_abs-mul a b) (omega (arith, small))

pub short_fits : (a b : ℤ) → unsigned_abs a < 2 ^ 63 → unsigned_abs b < 2 ^ 63 → Fits (a *ℤ b)
short_fits a b x y = lt-ltb (unsigned_abs (a *ℤ b)) (2 ^ 127) (let small = product_fits a b x y in omega (arith, small))

-- ---- numbers as code holds them: in 128 bits, in 64, and in 128 again

pub in_128 : (a : ℤ) → unsigned_abs a < 2 ^ 126 → FitsSigned w128 a
in_128 a x = fits_signed_from_abs w128 a (omega arith)

pub once : (a : ℤ) → unsigned_abs a < 2 ^ 63 → to_z w128 (of_z w128 a) ≡ a
once a x = to_z-of_z w128 a (in_128 a (omega arith))

pub twice : (a : ℤ) → unsigned_abs a < 2 ^ 63 → to_z w64 (of_z w64 (to_z w128 (of_z w128 a))) ≡ a
twice a x = rw (once a x) (to_z-of_z w64 a (fits_signed_from_abs w64 a x))

pub thrice : (a : ℤ) → unsigned_abs a < 2 ^ 63 → to_z w128 (of_z w128 (to_z w64 (of_z w64 (to_z w128 (of_z w128 a))))) ≡ a
thrice a x = rw (twice a x) (once a x)
