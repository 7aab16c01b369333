use Rattle.lane_questions.proofs.Words.{ap, sym, subst, arith, ◌≡◌, length, ◌∙◌, IsTrue, IsNarrow, the_view, lanes_of, LaneState, IsAsking}
use Rattle.lane_questions.proofs.AskingLaws.{question, told}
use Rattle.lane_questions.proofs.questions.LaneQuestions.ask.Goals as goal

pub returns-clause-gives : goal.returns-clause-gives
returns-clause-gives c =
    let n = c.args.places in
    let K = c.args.forms.now in
    let s : LaneState = the_view c.self.inside in
    let asking : IsAsking n K s = subst (IsAsking n K) (sym c.self.view_is) c.prepare.ensures.asking in
    let tried : IsTrue s.tried = ap (λ (s : LaneState). s.tried) c.self.view_is ∙ c.prepare.ensures.tried in
    let is_kept : IsTrue s.is_kept = ap (λ (s : LaneState). s.is_kept) c.self.view_is ∙ sym c.prepare.ensures.kept ∙ c.if-not-prepare.false in
    let narrow : IsNarrow n c.args.form.now = record { some = omega (arith, c.as_slice.ensures.form.some, ap length c.as_slice.ensures.value); most = c.requires.narrow } in
    let lanes : c.in_ok-form.form ≡ lanes_of c.args.form.now = c.in_ok-form.ensures.value ∙ ap lanes_of c.as_slice.ensures.value in
    told c.ask.result c.ask.ensures.gives (λ r gives. gives n K c.args.form.now (question n K s asking c.args.form.now c.in_ok-form.form tried is_kept narrow lanes))
