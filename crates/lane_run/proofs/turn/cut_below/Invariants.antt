use Rattle.lane_run.proofs.Words.{◌≡◌, ℕ, ◌<◌, ◌≤◌, true, row_at, is_not_below}
use Rattle.lane_run.proofs.turn.cut_below.Given as goal

abbrev pub invariant-loop-i : goal.invariant-loop-i
invariant-loop-i l = (j : ℕ) → l.rows.unknowns ≤ j → j < l.i → is_not_below (row_at l.rows.rows j) ≡ true
