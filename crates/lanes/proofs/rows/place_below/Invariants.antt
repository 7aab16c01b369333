use Rattle.lanes.proofs.Words.{ℕ, ◌<◌, pos, ◌≤ℤ◌, entry}
use Rattle.lanes.proofs.rows.place_below.Given as goal

abbrev pub invariant-loop-k : goal.invariant-loop-k
invariant-loop-k l = (j : ℕ) → j < l.k → pos 0 ≤ℤ entry l.row j
