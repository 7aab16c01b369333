use Rattle.std.proofs.Common.{rules, arith, ◌≡◌, to_z, of_z, w64}
use Rattle.std.proofs.lemmas.Int.{ints}
use Rattle.pip_model.specs.Numbers.{gcd}
use Rattle.pip_model.proofs.Gcd.{gcd_between}
use Rattle.short_numbers.specs.Short.{IsShort}
use Rattle.short_numbers.proofs.divisors.gcd.Goals as goal

pub returns-then-is_half-2-clause-divisor : goal.returns-then-is_half-2-clause-divisor
returns-then-is_half-2-clause-divisor c =
    let value : to_z w64 (of_z w64 c.from.result) ≡ gcd c.args.a c.args.b = search rules in
    let between = gcd_between c.args.a c.args.b c.requires.a.positive in
    let short : IsShort (gcd c.args.a c.args.b) = omega (arith, ints, between.0, between.1, c.requires.a.short) in
    rw value (record { positive = between.0; short = short })

pub returns-then-is_half-2-clause-bound : goal.returns-then-is_half-2-clause-bound
returns-then-is_half-2-clause-bound c =
    let value : to_z w64 (of_z w64 c.from.result) ≡ gcd c.args.a c.args.b = search rules in
    rw value (gcd_between c.args.a c.args.b c.requires.a.positive).1
