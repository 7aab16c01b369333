use Rattle.lane_questions.proofs.Words.{◌≡◌, ◌≤◌, ◌*◌, take, norm, AreLanes}
use Rattle.lane_questions.proofs.forms.small_norm.Given as goal

abbrev pub invariant-loop-k : goal.invariant-loop-k
invariant-loop-k l = record { lanes : AreLanes l.form; sum : l.sum ≡ norm (take l.k l.form); small : l.sum ≤ l.k * 2147483648 }
