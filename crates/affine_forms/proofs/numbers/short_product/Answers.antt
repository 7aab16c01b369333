use Rattle.affine_forms.proofs.Words.{rules, ◌≡◌, ◌*ℤ◌, to_z, of_z, w128}
use Rattle.affine_forms.proofs.Short.{product_fits, short_fits}
use Rattle.affine_forms.proofs.numbers.short_product.Goals as goal

pub returns-clause-bound : goal.returns-clause-bound
returns-clause-bound c =
    let value : to_z w128 (of_z w128 c.exact_product.result) ≡ c.args.a *ℤ c.args.b = search rules in
    rw value (product_fits c.args.a c.args.b c.requires.a c.requires.b)

pub returns-clause-fits : goal.returns-clause-fits
returns-clause-fits c = short_fits c.args.a c.args.b c.requires.a c.requires.b
