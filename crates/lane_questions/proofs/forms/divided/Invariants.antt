use Rattle.lane_questions.proofs.Words.{◌≡◌, floor_div, mapped, AreLanes}
use Rattle.lane_questions.proofs.forms.divided.Given as goal

abbrev pub invariant-loop-k : goal.invariant-loop-k
invariant-loop-k l = record { made : l.made ≡ mapped (λ x. floor_div x l.fn.d) l.k l.fn.form; lanes : AreLanes l.fn.form }
