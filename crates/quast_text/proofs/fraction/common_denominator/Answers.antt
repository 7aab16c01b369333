use Rattle.quast_text.proofs.Words.{◌≡◌, ◌≤ℤ◌, pos, to_z, of_z, arith, rules, w128, lcm, Fits}
use Rattle.quast_text.proofs.Denominators.{fit_step, last_step}
use Rattle.quast_text.proofs.fraction.common_denominator.Goals as goal

pub loop-fraction-preserved : goal.loop-fraction-preserved
loop-fraction-preserved c =
    let common = c.in_ok-common.common in
    let clean : to_z w128 (of_z w128 c.in_ok-common.common) ≡ c.in_ok-common.common = search rules in
    let made : c.in_ok-common.common ≡ lcm c.loop-fraction.common c.fraction-item.result.1 = search rules in
    let some : pos 1 ≤ℤ c.in_ok-common.common = search rules in
    let fit : Fits c.in_ok-common.common = search rules in
    let fs = c.args.fractions.now in
    let i = c.loop-fraction.fraction-index in
    rw clean (record {
      positive = some;
      fits = fit;
      fit = fit_step _ common fs i c.fraction-item.result _ c.loop-fraction.invariant.fit (omega arith) c.fraction-item.is (search rules) fit;
      last = last_step _ common fs i c.fraction-item.result _ c.loop-fraction.invariant.last (omega arith) c.fraction-item.is (search rules);
    })
