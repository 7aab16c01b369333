use Rattle.lane_questions.proofs.Words.{◌≡◌, ◌++◌, take, drop}
use Rattle.lane_questions.proofs.forms.write_form.Given as goal

abbrev pub invariant-loop-k : goal.invariant-loop-k
invariant-loop-k l = l.room.items ≡ l.fn.room.items ++ take l.k (drop 1 l.form)
