use Rattle.quast_walk.proofs.Words.{◌≡◌, ap, arith, rules, ◌-◌, List, ℤ, length, lower_bound, upper_bound}
use Rattle.pip_model.proofs.Bounds.{length-bounds}
use Rattle.quast_walk.proofs.Walking.{quotient}
use Rattle.quast_walk.proofs.steps.go_below.Goals as goal

pub add-requires-clause-narrow : goal.add-requires-clause-narrow
add-requires-clause-narrow c =
    let v = c.args.form.now in
    let is : c.in_ok-lower.lower ≡ lower_bound (length v) (length v - 1) (quotient v c.args.den) = search rules in
    let long = length-bounds (length v) (length v - 1) (quotient v c.args.den) (omega (arith, c.requires.wide)) (omega arith) (omega arith) in
    omega (arith, long.0, ap (λ (x : List ℤ). length x) is, c.requires.wide, c.widen.ensures.width)

pub add-requires-2-clause-narrow : goal.add-requires-2-clause-narrow
add-requires-2-clause-narrow c =
    let v = c.args.form.now in
    let is : c.in_ok-upper.upper ≡ upper_bound (length v) (length v - 1) (quotient v c.args.den) = search rules in
    let long = length-bounds (length v) (length v - 1) (quotient v c.args.den) (omega (arith, c.requires.wide)) (omega arith) (omega arith) in
    omega (arith, long.1, ap (λ (x : List ℤ). length x) is, c.requires.wide, c.widen.ensures.width, c.add.ensures.width)
