use Rattle.std.proofs.Common.{rules, ◌≡◌, ◌*ℤ◌, to_z, of_z}
use Rattle.std.specs.Int.{w64}
use Rattle.short_numbers.proofs.Bounds.{half_bound}
use Rattle.short_numbers.proofs.products.half_product.Goals as goal

pub returns-clause-bound : goal.returns-clause-bound
returns-clause-bound c =
    let value : to_z w64 (of_z w64 c.exact_half_product.result) ≡ c.args.a *ℤ c.args.b = search rules in
    rw value (half_bound c.args.a c.args.b c.requires.first c.requires.second)
