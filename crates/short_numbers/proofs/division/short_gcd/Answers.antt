use Rattle.std.proofs.Common.{rules, ◌≡◌, to_z}
use Rattle.std.specs.Int.{w64}
use Rattle.affine_forms.specs.Numbers.{gcd}
use Rattle.affine_forms.proofs.Gcd.{gcd_between}
use Rattle.short_numbers.proofs.division.short_gcd.Goals as goal

pub returns-clause-positive : goal.returns-clause-positive
returns-clause-positive c =
    let value : to_z w64 c.gcd_natural.result ≡ gcd c.args.a c.args.b = search rules in
    λ some. rw value (gcd_between c.args.a c.args.b some).0

pub returns-clause-bound : goal.returns-clause-bound
returns-clause-bound c =
    let value : to_z w64 c.gcd_natural.result ≡ gcd c.args.a c.args.b = search rules in
    λ some. rw value (gcd_between c.args.a c.args.b some).1
