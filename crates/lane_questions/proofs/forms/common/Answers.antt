use Rattle.lane_questions.proofs.Words.{rules, arith, ◌≡◌, ◌∙◌, drop, to_z, of_z, w32, ints, entry, gcd, gcd_zero}
use Rattle.lane_questions.proofs.TightLanes.{common_more}
use Rattle.lane_questions.proofs.forms.common.Goals as goal

pub loop-k-init : goal.loop-k-init
loop-k-init c = record { value = gcd_zero (drop 1 c.args.form); low = omega (arith, ints); narrow = omega arith }

pub loop-k-preserved : goal.loop-k-preserved
loop-k-preserved c =
    let found : to_z w32 (of_z w32 c.gcd-found.result) ≡ gcd (to_z w32 c.loop-k.found-bits) (entry c.args.form c.loop-k.k) = search rules in
    record {
      value = common_more c.args.form c.loop-k.k (to_z w32 c.loop-k.found-bits) (to_z w32 (of_z w32 c.gcd-found.result)) c.get.ensures.lanes (search rules) found ∙ c.loop-k.invariant.value;
      low = search rules;
      narrow = search rules;
    }
