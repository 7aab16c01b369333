use Rattle.affine_forms.proofs.Words.{arith, ◌*ℤ◌, to_z-of_z, w128, fits_signed_from_abs, w64}
use Rattle.affine_forms.proofs.Short.{product_fits, in_128, once, twice, thrice}
use Rattle.affine_forms.proofs.numbers.exact_product.Goals as goal

pub overflow_cast-result : goal.overflow_cast-result
overflow_cast-result c = rw (once c.args.a c.requires.a) (fits_signed_from_abs w64 c.args.a c.requires.a)

pub overflow_cast-result-2 : goal.overflow_cast-result-2
overflow_cast-result-2 c = rw (twice c.args.a c.requires.a) (in_128 c.args.a (omega (arith, c.requires.a)))

pub overflow_cast-result-3 : goal.overflow_cast-result-3
overflow_cast-result-3 c = rw (once c.args.b c.requires.b) (fits_signed_from_abs w64 c.args.b c.requires.b)

pub overflow_cast-result-4 : goal.overflow_cast-result-4
overflow_cast-result-4 c = rw (twice c.args.b c.requires.b) (in_128 c.args.b (omega (arith, c.requires.b)))

pub overflow_mul-result : goal.overflow_mul-result
overflow_mul-result c =
    rw (thrice c.args.a c.requires.a, thrice c.args.b c.requires.b) (in_128 (c.args.a *ℤ c.args.b) (product_fits c.args.a c.args.b c.requires.a c.requires.b))

pub returns : goal.returns
returns c =
    rw (thrice c.args.a c.requires.a, thrice c.args.b c.requires.b)
    (to_z-of_z w128 (c.args.a *ℤ c.args.b) (in_128 (c.args.a *ℤ c.args.b) (product_fits c.args.a c.args.b c.requires.a c.requires.b)))
