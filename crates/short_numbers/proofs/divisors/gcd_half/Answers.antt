use Rattle.std.proofs.lemmas.Nat.Gcd.{IsGcd-from_zero, IsGcd-from_mod, IsGcd-swap}
use Rattle.affine_forms.proofs.Gcd.{euclid_only}
use Rattle.short_numbers.proofs.divisors.gcd_half.Goals as goal

pub loop-y-init : goal.loop-y-init
loop-y-init c = λ g h. IsGcd-swap _ _ g h

pub loop-y-preserved : goal.loop-y-preserved
loop-y-preserved c = λ g h. c.loop-y.invariant g (IsGcd-from_mod _ _ g h)

pub returns : goal.returns
returns c = euclid_only _ _ _ (c.loop-y.invariant _ (IsGcd-from_zero _ _ c.loop-y-test.false))
