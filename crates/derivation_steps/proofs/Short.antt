-- A number of 64 bits and a product of two such.
use Rattle.derivation_steps.proofs.Words.{pos, ◌≤◌, ℤ, ◌+ℤ◌, ◌*ℤ◌, arith, unsigned_abs, w128, Fits, ints}
use Rattle.derivation_steps.proofs.Spreading.{once}
use Rattle.std.specs.Prelude.{◌^◌, FitsSigned}
use Rattle.std.specs.Int.{w64}
use Rattle.std.proofs.lemmas.Nat.{mul-le}
use Rattle.std.proofs.lemmas.Int.{unsigned_abs-mul, fits_signed_from_abs}
use Rattle.std.proofs.lemmas.Bool.{lt-ltb, ltb-true}

bound : (a : ℤ) → FitsSigned w64 a → unsigned_abs a ≤ 2 ^ 63
bound a h = omega (arith, ints, h)

product_bound : (a b : ℤ) → FitsSigned w64 a → FitsSigned w64 b → unsigned_abs (a *ℤ b) ≤ 2 ^ 126
product_bound a b x y =
    let small = mul-le (unsigned_abs a) (unsigned_abs b) (2 ^ 63) (2 ^ 63) (bound a x) (bound b y) in
    rw (unsigned_abs-mul a b) (omega (arith, small))

pub product_fits : (a b : ℤ) → FitsSigned w64 a → FitsSigned w64 b → Fits (a *ℤ b)
product_fits a b x y = lt-ltb (unsigned_abs (a *ℤ b)) (2 ^ 127) (let small = product_bound a b x y in omega (arith, small))

pub sum_fits : (s a b : ℤ) → FitsSigned w64 s → FitsSigned w64 a → FitsSigned w64 b → Fits (s +ℤ a *ℤ b)
sum_fits s a b x y z = lt-ltb (unsigned_abs (s +ℤ a *ℤ b)) (2 ^ 127) (let first = bound s x in let small = product_bound a b y z in omega (arith, ints, first, small))

pub fits_128 : (z : ℤ) → Fits z → FitsSigned w128 z
fits_128 z h = fits_signed_from_abs w128 z (ltb-true (unsigned_abs z) (2 ^ 127) h)

-- ---- numbers that are added once

pub once_fits : (z : ℤ) → unsigned_abs z ≤ 2 ^ 125 → Fits (pos 1 *ℤ z)
once_fits z h = rw (once z) (lt-ltb (unsigned_abs z) (2 ^ 127) (omega (arith, h)))

both_fit : (s z : ℤ) → unsigned_abs s ≤ 2 ^ 125 → unsigned_abs z ≤ 2 ^ 125 → Fits (s +ℤ z)
both_fit s z h k = lt-ltb (unsigned_abs (s +ℤ z)) (2 ^ 127) (omega (arith, ints, h, k))

pub once_128 : (s z : ℤ) → unsigned_abs s ≤ 2 ^ 125 → unsigned_abs z ≤ 2 ^ 125 → FitsSigned w128 (s +ℤ z)
once_128 s z h k = fits_128 (s +ℤ z) (both_fit s z h k)

pub narrow_fits : (s z : ℤ) → unsigned_abs s ≤ 2 ^ 125 → unsigned_abs z ≤ 2 ^ 125 → Fits (s +ℤ pos 1 *ℤ z)
narrow_fits s z h k = rw (once z) (both_fit s z h k)
