use Rattle.lane_questions.proofs.Words.{rules, refl, ◌≡◌, ◌+◌, slice_set, entry}
use Rattle.lane_questions.proofs.FormLanes.{lane_step}
use Rattle.lane_questions.proofs.forms.in_lanes.Goals as goal

pub loop-k-preserved : goal.loop-k-preserved
loop-k-preserved c =
    let is : c.in_ok-narrow-2.field-0 ≡ entry c.args.entries.now c.loop-k.k = search rules in
    let set : c.set.new.self ≡ slice_set c.loop-k.lanes (c.loop-k.k + 1) c.in_ok-narrow-2.field-0 = search rules in
    lane_step c.args.entries.now c.loop-k.lanes c.set.new.self c.loop-k.k (c.loop-k.k + 1) c.in_ok-narrow-2.field-0 c.loop-k.invariant (search rules) (search rules) is set refl
