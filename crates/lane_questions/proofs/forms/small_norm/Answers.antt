use Rattle.lane_questions.proofs.Words.{rules, refl, arith, ◌≡◌, ◌+◌, unsigned_abs, entry}
use Rattle.lane_questions.proofs.FormLanes.{norm_step}
use Rattle.lane_questions.proofs.forms.small_norm.Goals as goal

pub loop-k-preserved : goal.loop-k-preserved
loop-k-preserved c =
    let next = norm_step c.args.form c.loop-k.k (c.loop-k.k + 1) refl in
    let size : c.unsigned_abs.result ≡ unsigned_abs (entry c.args.form c.loop-k.k) = search rules in
    record {
      lanes = c.loop-k.invariant.lanes;
      sum = omega (arith, next, c.loop-k.invariant.sum, size);
      small = omega (arith, c.loop-k.invariant.small, c.unsigned_abs.ensures.bound);
    }
