use Rattle.affine_forms.proofs.Words.{IsGcd-from_zero, IsGcd-from_mod, euclid_only}
use Rattle.affine_forms.proofs.numbers.gcd_short.Goals as goal

pub loop-y-preserved : goal.loop-y-preserved
loop-y-preserved c = λ g h. c.loop-y.invariant g (IsGcd-from_mod _ _ g h)

pub returns : goal.returns
returns c = euclid_only _ _ _ (c.loop-y.invariant _ (IsGcd-from_zero _ _ c.loop-y-test.false))
