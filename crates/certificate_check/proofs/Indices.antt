-- Indices that fit.
use Rattle.certificate_check.proofs.Words.{◌≡◌, ℕ, ◌+◌, ◌<◌, ◌^◌, ℤ, pos, negsuc, ◌+ℤ◌, ◌-ℤ◌, ◌≤ℤ◌, ◌<ℤ◌, unsigned_abs, true, arith, nat_lt, ints, fits, fits-le}
use Rattle.std.proofs.lemmas.Bool.Decides.{nat_tests}

pub fits_down : (i : ℤ) (n : ℕ) → pos n ≤ℤ i → fits i ≡ true → fits (i -ℤ pos n) ≡ true
fits_down (pos m) n h f = fits-le (pos m -ℤ pos n) (pos m) (omega (arith, ints)) f
fits_down (negsuc m) n h f = absurd (omega (arith, ints))

small : (k : ℕ) → k < 2 ^ 127 → nat_lt k (2 ^ 127) ≡ true
small k h = grind (arith, nat_tests)

pub fits_up : (i : ℤ) (k n : ℕ) → pos 0 ≤ℤ i → i <ℤ pos k → k + n < 2 ^ 127 → fits (i +ℤ pos n) ≡ true
fits_up (pos m) k n l h f = small (unsigned_abs (pos m +ℤ pos n)) (omega (arith, ints))
fits_up (negsuc m) k n l h f = absurd (omega (arith, ints))
