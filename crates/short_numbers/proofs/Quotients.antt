-- Quotients of short numbers.
use Rattle.std.proofs.Common.{zero, suc, ◌≤◌, ℤ, pos, negsuc, ◌≤ℤ◌, unsigned_abs, arith}
use Rattle.std.proofs.lemmas.Int.{ints}
use Rattle.std.proofs.Math.Nat.{div-le_self}
use Rattle.affine_forms.specs.Numbers.{floor_div}
use Rattle.short_numbers.specs.Short.{IsShort}

smaller : (a d : ℤ) → pos 1 ≤ℤ d → unsigned_abs (floor_div a d) ≤ unsigned_abs a
smaller a (pos zero) h = absurd (omega (arith, ints))
smaller a (negsuc d) h = absurd (omega (arith, ints))
smaller (pos n) (pos (suc d)) h = div-le_self n (suc d)
smaller (negsuc n) (pos (suc d)) h = let small = div-le_self n (suc d) in omega (arith, small)

pub quotient_short : (a d : ℤ) → pos 1 ≤ℤ d → IsShort a → IsShort (floor_div a d)
quotient_short a d h k = let small = smaller a d h in omega (arith, small, k)
