use Rattle.std.proofs.Common.{arith, ◌^◌}
use Rattle.std.proofs.lemmas.Nat.Gcd.{IsGcd-from_zero, IsGcd-from_mod, IsGcd-swap}
use Rattle.affine_forms.proofs.Gcd.{euclid_only, euclid_below}
use Rattle.short_numbers.proofs.division.gcd_natural.Goals as goal

pub loop-y-init : goal.loop-y-init
loop-y-init c = λ g h. IsGcd-swap _ _ g h

pub loop-y-preserved : goal.loop-y-preserved
loop-y-preserved c = λ g h. c.loop-y.invariant g (IsGcd-from_mod _ _ g h)

pub returns-clause-value : goal.returns-clause-value
returns-clause-value c = euclid_only _ _ _ (c.loop-y.invariant _ (IsGcd-from_zero _ _ c.loop-y-test.false))

pub returns-clause-bound : goal.returns-clause-bound
returns-clause-bound c =
    let value = returns-clause-value c in
    omega (arith, value, euclid_below c.args.a c.args.b (2 ^ 63) c.requires.a c.requires.b)
