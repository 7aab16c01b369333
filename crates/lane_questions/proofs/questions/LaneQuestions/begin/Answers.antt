use Rattle.lane_questions.proofs.Words.{refl, sym, subst, arith, ap, ◌∙◌, IsTrue, the_view, LaneState, IsAsking}
use Rattle.lane_questions.proofs.AskingLaws.{asked_first, unkept_from, asking_unkept, same_earlier, copied_earlier, begun_kept}
use Rattle.lane_questions.proofs.questions.LaneQuestions.begin.Goals as goal

pub returns-then-not-self-clause-begun : goal.returns-then-not-self-clause-begun
returns-then-not-self-clause-begun c told K was = record { within = omega arith; kept = c.restart.ensures told }

pub returns-then-not-self-clause-asking : goal.returns-then-not-self-clause-asking
returns-then-not-self-clause-asking c K was =
    let n = c.args.places in
    let s : LaneState = the_view c.self.inside in
    let before : IsAsking n K s = subst (IsAsking n K) (sym c.self.view_is) was in
    unkept_from n K s before n (record s { known = 0; kept = c.restart.new.self }) (asked_first n K s before) (same_earlier n K s before)

pub returns-then-self-len-clause-begun : goal.returns-then-self-len-clause-begun
returns-then-self-len-clause-begun c told K was =
    let n = c.args.places in
    let s : LaneState = the_view c.self.inside in
    let before : IsAsking n K s = subst (IsAsking n K) (sym c.self.view_is) was in
    let is_kept : IsTrue c.self.inside.is_kept = c.if-not-self.false in
    begun_kept n K s before (record s { earlier = c.copy_from-self-inside.new.self; is_earlier = c.copy_from-self-inside.result; fewer = s.known }) is_kept refl refl

pub returns-then-self-len-clause-asking : goal.returns-then-self-len-clause-asking
returns-then-self-len-clause-asking c K was =
    let n = c.args.places in
    let s : LaneState = the_view c.self.inside in
    let before : IsAsking n K s = subst (IsAsking n K) (sym c.self.view_is) was in
    unkept_from n K s before n (record s { earlier = c.copy_from-self-inside.new.self; is_earlier = c.copy_from-self-inside.result; fewer = s.known }) (asked_first n K s before)
    (λ h. copied_earlier n K s before c.copy_from-self-inside.new.self c.if-not-self.false (c.copy_from-self-inside.ensures h))

pub returns-else-self-len-clause-begun : goal.returns-else-self-len-clause-begun
returns-else-self-len-clause-begun c told K was =
    let is_kept : IsTrue c.args.self.now.is_kept = ap (λ (s : LaneState). s.is_kept) (sym c.self.view_is) ∙ c.if-not-self.false in
    begun_kept c.args.places K c.args.self.now was c.args.self.now is_kept refl refl

pub returns-else-self-len-clause-asking : goal.returns-else-self-len-clause-asking
returns-else-self-len-clause-asking c K was = asking_unkept c.args.places K c.args.self.now was c.args.places
