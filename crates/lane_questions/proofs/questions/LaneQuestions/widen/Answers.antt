use Rattle.lane_questions.proofs.Words.{sym, subst, ◌+◌, the_view, IsAsking}
use Rattle.lane_questions.proofs.AskingLaws.{asking_unkept}
use Rattle.lane_questions.proofs.questions.LaneQuestions.widen.Goals as goal

pub returns-clause-asking : goal.returns-clause-asking
returns-clause-asking c n K was = asking_unkept n K (the_view c.self.inside) (subst (IsAsking n K) (sym c.self.view_is) was) (n + 1)
