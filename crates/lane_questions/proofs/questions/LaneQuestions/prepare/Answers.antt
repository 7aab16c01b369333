use Rattle.lane_questions.proofs.Words.{refl, sym, subst, length, true, the_view, LaneState, IsAsking, IsMade, unkept}
use Rattle.lane_questions.proofs.AskingLaws.{asking_made}
use Rattle.lane_questions.proofs.questions.LaneQuestions.prepare.Goals as goal

pub returns-clause-asking : goal.returns-clause-asking
returns-clause-asking c =
    let n = c.args.places in
    let K = c.args.forms.now in
    let s : LaneState = the_view c.self-2.inside in
    let rest : IsAsking n K (unkept s) = subst (λ (s : LaneState). IsAsking n K (unkept s)) (sym c.self-2.view_is) c.make_run-self-inside.ensures.asking in
    asking_made n K s (record s { is_kept = c.make_run-self-inside.result; known = length K; tried = true }) rest (λ h. subst (IsMade n K) (sym c.self-2.view_is) (c.make_run-self-inside.ensures.made h)) refl refl refl refl refl refl
