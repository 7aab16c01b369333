use Rattle.lane_rows.proofs.Words.{◌≡◌, ◌+◌, ◌<◌, ℕ, true, divides, entry}
use Rattle.lane_rows.proofs.reading.first_left.Given as goal

abbrev pub invariant-loop-i : goal.invariant-loop-i
invariant-loop-i l = (j : ℕ) → j < l.i → divides l.l (entry l.at (j + 1)) ≡ true
