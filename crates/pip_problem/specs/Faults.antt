-- The definitions' words for the refusals of the code; want of memory has none.
use Rattle.std.specs.Prelude.{Option, Some, None}
use Rattle.affine_forms.specs.declared.memory.FormRefusal.{FormRefusal}
use Rattle.affine_forms.specs.declared.memory.FormRefusal.TheVariants as form
use Rattle.pip_problem.specs.declared.refusal.Refusal.{Refusal}
use Rattle.pip_problem.specs.declared.refusal.Refusal.TheVariants as refusal
use Rattle.pip_problem.specs.declared.refusal.ReadRefusal.{ReadRefusal}
use Rattle.pip_problem.specs.declared.refusal.ReadRefusal.TheVariants as read
use Rattle.affine_forms.specs.Run as run
use Rattle.affine_forms.specs.Reading as reading

abbrev pub run_fault : Refusal → Option run.Refusal
run_fault refusal.Overflow = Some run.Overflow
run_fault (refusal.Pivots n) = Some (run.Pivots n)
run_fault (refusal.Cuts n) = Some (run.Cuts n)
run_fault (refusal.Splits n) = Some (run.Splits n)
run_fault (refusal.Nesting n) = Some (run.Nesting n)
run_fault refusal.WantOfMemory = None

abbrev pub read_fault : ReadRefusal → Option reading.Fault
read_fault (read.Syntax place) = Some (reading.Syntax place)
read_fault (read.Wide place) = Some (reading.Wide place)
read_fault (read.Limit kind z) = Some (reading.Limit kind z)
read_fault (read.BigParameter z) = Some (reading.BigParameter z)
read_fault (read.OptionWord word) = Some (reading.OptionWord word)
read_fault read.WantOfMemory = None

-- the refusal of a run whose form is refused
abbrev pub of_form : FormRefusal → Refusal
of_form form.Overflow = refusal.Overflow
of_form form.WantOfMemory = refusal.WantOfMemory
