use Rattle.lane_questions.proofs.Words.{rules, arith, ◌∙◌, sym}
use Rattle.lane_questions.proofs.TightLanes.{unit_behind}
use Rattle.lane_questions.proofs.forms.has_unit.Goals as goal

pub returns-then-unsigned_abs-eq1 : goal.returns-then-unsigned_abs-eq1
returns-then-unsigned_abs-eq1 c = λ yes.
    unit_behind c.args.form c.loop-k.k c.get.ensures.lanes (omega arith) (omega arith) (sym (search rules) ∙ c.if-unsigned_abs-eq1.true)
