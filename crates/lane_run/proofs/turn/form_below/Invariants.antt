use Rattle.lane_run.proofs.Words.{◌≡◌, ℕ, ◌<◌, true, get_or, [], is_nonneg, value_of}
use Rattle.lane_run.proofs.turn.form_below.Given as goal

abbrev pub invariant-loop-form : goal.invariant-loop-form
invariant-loop-form l = (j : ℕ) → j < l.form-index → is_nonneg (value_of l.rows (get_or l.forms j [])) ≡ true
