use Rattle.affine_forms.proofs.Words.{◌*ℤ◌, to_z-of_z, w128}
use Rattle.affine_forms.proofs.Bits.{held}
use Rattle.affine_forms.proofs.numbers.times.Goals as goal

pub short_product-requires-clause-a : goal.short_product-requires-clause-a
short_product-requires-clause-a c = c.is_short.ensures c.if-is_short.true

pub short_product-requires-clause-b : goal.short_product-requires-clause-b
short_product-requires-clause-b c = c.is_short-then-is_short.ensures c.if-is_short-2.true

pub returns-then-is_short-2 : goal.returns-then-is_short-2
returns-then-is_short-2 c =
    let value = rw (to_z-of_z w128 c.args.a c.ranges.a, to_z-of_z w128 c.args.b c.ranges.b) at c.short_product.ensures.value in
    let fits = rw (to_z-of_z w128 c.args.a c.ranges.a, to_z-of_z w128 c.args.b c.ranges.b) at c.short_product.ensures.fits in
    rw value (held (c.args.a *ℤ c.args.b) fits, fits)
