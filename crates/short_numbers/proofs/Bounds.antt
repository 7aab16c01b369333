-- Bounds of products.
use Rattle.std.proofs.Common.{◌^◌, ◌-◌, ◌<◌, ℤ, ◌*ℤ◌, arith, unsigned_abs}
use Rattle.std.proofs.lemmas.Int.{unsigned_abs-mul}
use Rattle.std.proofs.lemmas.Nat.{mul-le}
use Rattle.short_numbers.specs.Short.{IsHalf}

pub half_bound : (a b : ℤ) → IsHalf a → IsHalf b → unsigned_abs (a *ℤ b) < 2 ^ 62
half_bound a b x y =
    let small = mul-le (unsigned_abs a) (unsigned_abs b) (2 ^ 31 - 1) (2 ^ 31 - 1) (omega arith) (omega arith) in
    rw (unsigned_abs-mul a b) (omega (arith, small))
