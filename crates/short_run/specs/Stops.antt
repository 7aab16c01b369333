-- Why a run over short numbers ends before its answer.
use Rattle.std.specs.Prelude.{Option, None}
use Rattle.pip_model.specs.Run as run
use Rattle.pip_problem.specs.Faults.{run_fault}
use Rattle.short_run.specs.declared.stop.Stop.{Stop}
use Rattle.short_run.specs.declared.stop.Stop.TheVariants as stop

-- the refusal of the run; none where a number is not short, of which nothing is said
abbrev pub stop_fault : Stop → Option run.Refusal
stop_fault (stop.Refused e) = run_fault e
stop_fault stop.Long = None
