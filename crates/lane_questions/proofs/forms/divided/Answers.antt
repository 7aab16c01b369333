use Rattle.lane_questions.proofs.Words.{rules, arith, ◌≡◌, ◌∙◌, pos, to_z, of_z, w32, slice_set, entry, floor_div, mapped_step}
use Rattle.lane_questions.proofs.forms.divided.Goals as goal

pub loop-k-preserved : goal.loop-k-preserved
loop-k-preserved c =
    let d = to_z w32 (of_z w32 c.args.d) in
    let z = to_z w32 (of_z w32 c.floor_div.result) in
    let q : z ≡ floor_div (entry c.loop-k.made c.loop-k.k) d = search rules in
    let set : c.with-made.result ≡ slice_set c.loop-k.made c.loop-k.k z = search rules in
    record {
      made = set ∙ mapped_step (λ x. floor_div x d) c.args.form c.loop-k.made c.loop-k.k z (pos 0) (omega (arith, c.loop-k.invariant.lanes.long)) c.loop-k.invariant.made q;
      lanes = c.loop-k.invariant.lanes;
    }
