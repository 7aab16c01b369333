use Rattle.lane_run.proofs.Words.{◌≡◌, ◌++◌, left, run_rows, forms_of}
use Rattle.lane_run.proofs.SameRun.{IsSameRun}
use Rattle.lane_run.proofs.run.run_in_lanes.Given as goal

abbrev pub invariant-loop-found : goal.invariant-loop-found
invariant-loop-found l = record {
  unknowns : l.rows.unknowns ≡ l.fn.rows.unknowns;
  run : IsSameRun l.fn.rows.unknowns (run_rows l.fn.rows (forms_of l.fn.rows.unknowns (l.forms.forms.now ++ l.forms.further.now)))
      (run_rows l.rows (forms_of l.fn.rows.unknowns (l.forms.forms.now ++ l.forms.further.now))) l.fn.work l.work;
}

abbrev pub decreases-loop-found : goal.decreases-loop-found
decreases-loop-found l = left l.work
