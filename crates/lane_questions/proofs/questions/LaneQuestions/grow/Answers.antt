use Rattle.lane_questions.proofs.Words.{refl, sym, subst, the_view, IsAsking}
use Rattle.lane_questions.proofs.AskingLaws.{asking_longer}
use Rattle.lane_questions.proofs.questions.LaneQuestions.grow.Goals as goal

pub returns-clause-asking : goal.returns-clause-asking
returns-clause-asking c n K f was = asking_longer n K (the_view c.self.inside) (subst (IsAsking n K) (sym c.self.view_is) was) f _ refl
