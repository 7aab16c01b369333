-- The definitions' words for the refusals of the code; want of memory has none.
use Rattle.std.specs.Prelude.{Option, Some, None}
use Rattle.pip_model.specs.Run as run
use Rattle.pip_model.specs.Walks as walks
use Rattle.affine_forms.specs.declared.memory.FormRefusal.{FormRefusal}
use Rattle.pip_problem.specs.Faults.{run_fault, of_form as run_of}
use Rattle.quast_walk.specs.declared.refusal.ToolRefusal.{ToolRefusal}
use Rattle.quast_walk.specs.declared.refusal.ToolRefusal.TheVariants as refusal

-- a refusal of a part of the run
abbrev pub by_run_fault : Option run.Refusal → Option walks.ToolRefusal
by_run_fault None = None
by_run_fault (Some e) = Some (walks.ByRun e)

abbrev pub tool_fault : ToolRefusal → Option walks.ToolRefusal
tool_fault (refusal.Run e) = by_run_fault (run_fault e)
tool_fault refusal.Negative = Some walks.Negative
tool_fault (refusal.Lengths i j) = Some (walks.Lengths i j)

-- a refusal of a calculation
abbrev pub of_form : FormRefusal → ToolRefusal
of_form e = refusal.Run (run_of e)
