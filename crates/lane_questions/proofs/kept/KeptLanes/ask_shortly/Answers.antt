use Rattle.lane_questions.proofs.Words.{arith, sym, subst, ℤ, List, IsQuestion}
use Rattle.lane_questions.proofs.FormLanes.{within_more}
use Rattle.lane_questions.proofs.kept.KeptLanes.ask_shortly.Goals as goal

pub ask_readable-requires-clause-within : goal.ask_readable-requires-clause-within
ask_readable-requires-clause-within c = within_more c.args.forms.now.norm c.max.result c.as_slice.result.now (omega (arith, c.max.ensures, c.norm.ensures.value)) c.as_slice.ensures.within

pub ask_readable-requires-clause-form : goal.ask_readable-requires-clause-form
ask_readable-requires-clause-form c = record { lanes = c.in-Some.ensures.lanes; norm = omega (arith, c.max.ensures, c.in-Some.ensures.value) }

pub returns-clause-gives : goal.returns-clause-gives
returns-clause-gives c = λ n K form is.
    c.ask_readable.ensures.gives n K form (subst (λ (all : List (List ℤ)). IsQuestion n K form all c.args.form c.args.self.now) (sym c.as_slice.ensures.value) is)
