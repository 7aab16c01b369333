use Rattle.lane_questions.proofs.Words.{rules, refl, sym, subst, ◌∙◌, take, the_view, LaneState, IsAsking}
use Rattle.lane_questions.proofs.AskingLaws.{asking_front, kept_front, earlier_front}
use Rattle.lane_questions.proofs.questions.LaneQuestions.back_to.Goals as goal

pub returns-clause-asking : goal.returns-clause-asking
returns-clause-asking c n K room was =
    let before : IsAsking n K (the_view c.self.inside) = subst (IsAsking n K) (sym c.self.view_is) was in
    let s : LaneState = the_view c.self.inside in
    c.take_earlier.ensures.asking (take c.args.forms K)
    (asking_front n K s before c.args.places c.args.forms _ room c.truncate.ensures refl
    (λ h. kept_front n K s before c.args.places c.args.forms (c.stays-self-inside.ensures h).0 (c.stays-self-inside.ensures h).2 (sym c.places.ensures ∙ search rules))
    (λ h. earlier_front n K s before s.earlier.table.unknowns c.args.forms (c.stays-self-inside-2.ensures h).0 (c.stays-self-inside-2.ensures h).2 refl))
