use Rattle.refutation_steps.proofs.Words.{left}
use Rattle.refutation_steps.proofs.Tracing.{IsOneTrace}
use Rattle.refutation_steps.proofs.traced_rows.refute_run.Given as goal

abbrev pub invariant-loop-rows : goal.invariant-loop-rows
invariant-loop-rows g l = IsOneTrace (g.R.PointRows.table l.fn.rows) (g.R.PointRows.table l.rows) l.fn.trace l.trace l.fn.work l.work

abbrev pub decreases-loop-rows : goal.decreases-loop-rows
decreases-loop-rows g l = left l.work
