use Rattle.point_run.proofs.Words.{◌≡◌, drop, negative_from}
use Rattle.point_run.proofs.point_turn.first_below.Given as goal

abbrev pub invariant-loop-i : goal.invariant-loop-i
invariant-loop-i l = negative_from l.i (drop l.i l.rows.rows) ≡ negative_from 0 l.rows.rows
