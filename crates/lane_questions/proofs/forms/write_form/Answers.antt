use Rattle.lane_questions.proofs.Words.{rules, arith}
use Rattle.lane_questions.proofs.TightLanes.{is_form_in, put_more, put_last}
use Rattle.lane_questions.proofs.forms.write_form.Goals as goal

pub loop-k-preserved : goal.loop-k-preserved
loop-k-preserved c =
    put_more c.args.room.now.items c.loop-k.room.items c.push.new.self.items c.args.form c.loop-k.k _ c.get.ensures.lanes (omega arith) c.in_ok-push.ensures.items c.loop-k.invariant (search rules)

pub returns-clause-value : goal.returns-clause-value
returns-clause-value c =
    put_last c.args.room.now.items c.loop-k.room.items c.push-2.new.self.items c.args.form c.loop-k.k c.args.places _ c.in_ok-push-2.ensures.items c.loop-k.invariant (omega arith) (search rules)

pub returns-clause-form : goal.returns-clause-form
returns-clause-form c = is_form_in c.args.places c.args.form c.get-2.ensures.lanes
