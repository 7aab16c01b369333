use Rattle.point_turns.proofs.Words.{left}
use Rattle.point_turns.proofs.Pointing.{IsOneRun}
use Rattle.point_turns.proofs.run.run_on.Given as goal

abbrev pub invariant-loop-rows : goal.invariant-loop-rows
invariant-loop-rows g l = IsOneRun l.integer (g.R.PointRows.table l.fn.rows) (g.R.PointRows.table l.rows) l.fn.work l.work

abbrev pub decreases-loop-rows : goal.decreases-loop-rows
decreases-loop-rows g l = left l.work
