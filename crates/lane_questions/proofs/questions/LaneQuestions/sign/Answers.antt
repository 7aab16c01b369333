use Rattle.lane_questions.proofs.Words.{rules, sym, subst, IsTrue, the_view, LaneState, IsAsking}
use Rattle.lane_questions.proofs.AskingLaws.{question, told}
use Rattle.lane_questions.proofs.questions.LaneQuestions.sign.Goals as goal

pub returns-clause-gives : goal.returns-clause-gives
returns-clause-gives c =
    let n = c.args.places in
    let K = c.args.forms.now in
    let s : LaneState = the_view c.self.inside in
    let asking : IsAsking n K s = subst (IsAsking n K) (sym c.self.view_is) c.prepare.ensures.asking in
    let tried : IsTrue s.tried = search rules in
    let is_kept : IsTrue s.is_kept = search rules in
    told c.sign.result c.sign.ensures.gives (λ r gives d lanes narrow. gives n K d (question n K s asking d c.args.form tried is_kept narrow lanes))
