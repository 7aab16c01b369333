use Rattle.std.proofs.Common.{arith, ◌*ℤ◌}
use Rattle.std.specs.Int.{w64}
use Rattle.std.proofs.lemmas.Int.{to_z-of_z, fits_signed_from_abs}
use Rattle.short_numbers.proofs.Bounds.{half_bound}
use Rattle.short_numbers.proofs.products.exact_half_product.Goals as goal

pub returns : goal.returns
returns c =
    let small = half_bound c.args.a c.args.b c.requires.first c.requires.second in
    let fits = fits_signed_from_abs w64 (c.args.a *ℤ c.args.b) (omega (arith, small)) in
    let a = c.ranges.a in
    let b = c.ranges.b in
    grind (arith, to_z-of_z)
