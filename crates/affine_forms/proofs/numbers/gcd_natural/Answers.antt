use Rattle.affine_forms.proofs.Words.{arith, ◌^◌, IsGcd-from_zero, IsGcd-from_mod, euclid_only, euclid_below}
use Rattle.affine_forms.proofs.numbers.gcd_natural.Goals as goal

pub loop-y-preserved : goal.loop-y-preserved
loop-y-preserved c = λ g h. c.loop-y.invariant g (IsGcd-from_mod _ _ g h)

pub returns-clause-value : goal.returns-clause-value
returns-clause-value c = euclid_only _ _ _ (c.loop-y.invariant _ (IsGcd-from_zero _ _ c.loop-y-test.false))

pub returns-clause-bound : goal.returns-clause-bound
returns-clause-bound c =
    let value = returns-clause-value c in
    omega (arith, value, euclid_below c.args.a c.args.b (2 ^ 127) c.requires.a_below c.requires.b_below)
