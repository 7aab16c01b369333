-- The definition's words for the places and the faults of the code; want of memory has none.
use Rattle.std.specs.Prelude.{Option, Some, None}
use Rattle.pip_model.specs.Check as model
use Rattle.derivation_steps.specs.declared.fault.Spot.{Spot}
use Rattle.derivation_steps.specs.declared.fault.Fault.{Fault}
use Rattle.derivation_steps.specs.declared.fault.Fault.TheVariants as fault
use Rattle.derivation_steps.specs.declared.fault.StepRefusal.{StepRefusal}
use Rattle.derivation_steps.specs.declared.fault.StepRefusal.TheVariants as step
use Rattle.affine_forms.specs.declared.memory.FormRefusal.{FormRefusal}
use Rattle.affine_forms.specs.declared.memory.FormRefusal.TheVariants as form

abbrev pub spot_of : Spot → model.Spot
spot_of s = model.spot s.leaf s.refutation s.step

abbrev pub fault_of : Fault → Option model.CheckFault
fault_of (fault.Rejected s) = Some (model.Rejected (spot_of s))
fault_of (fault.Overflow s) = Some (model.Unfit (spot_of s))
fault_of fault.WantOfMemory = None

-- those of a step's refusals at this place
abbrev pub fault_at : model.Spot → StepRefusal → Option model.CheckFault
fault_at s step.Rejected = Some (model.Rejected s)
fault_at s step.Overflow = Some (model.Unfit s)
fault_at s step.WantOfMemory = None

-- the refusal of a step where a multiple of a form is not added
abbrev pub of_form : FormRefusal → StepRefusal
of_form form.Overflow = step.Overflow
of_form form.WantOfMemory = step.WantOfMemory
