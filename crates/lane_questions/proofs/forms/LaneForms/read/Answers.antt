use Rattle.lane_questions.proofs.Words.{rules, ◌≡◌, [], ◌∷◌, ◌++◌, lanes_of}
use Rattle.lane_questions.proofs.FormLanes.{first_step, first_place}
use Rattle.lane_questions.proofs.forms.LaneForms.read.Goals as goal

pub loop-i-preserved : goal.loop-i-preserved
loop-i-preserved c =
    let lanes : c.in-Some.form ≡ lanes_of c.index-forms-i.result = search rules in
    let added : c.push.new.self.forms ≡ c.loop-i.self.forms ++ c.in-Some.form ∷ [] = search rules in
    record {
      first = first_step c.args.forms.now c.loop-i.self.forms c.push.new.self.forms c.index-forms-i.result c.in-Some.form c.loop-i.i c.loop-i.invariant.first c.loop-i.invariant.place (search rules) c.index-forms-i.is lanes added;
      place = first_place c.loop-i.self.forms c.push.new.self.forms c.in-Some.form c.loop-i.i c.loop-i.invariant.place added;
    }
