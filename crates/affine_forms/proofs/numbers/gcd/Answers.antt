use Rattle.affine_forms.proofs.Words.{rules, ◌≡◌, to_z, w128, gcd, gcd_between}
use Rattle.affine_forms.proofs.numbers.gcd.Goals as goal

pub returns-clause-positive : goal.returns-clause-positive
returns-clause-positive c =
    let value : to_z w128 c.gcd_natural.result ≡ gcd c.args.a c.args.b = search rules in
    λ some. rw value (gcd_between c.args.a c.args.b some)
