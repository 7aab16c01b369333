-- How the refusals of the code end a run: a status, and the line on the notes.
use Rattle.std.specs.Prelude.{Option, Some, None, option_map, unwrap_or, ⊤}
use Rattle.program_model.specs.Endings as model
use Rattle.pip_problem.specs.Faults.{run_fault, read_fault}
use Rattle.pip_problem.specs.declared.refusal.Refusal.{Refusal}
use Rattle.pip_problem.specs.declared.refusal.ReadRefusal.{ReadRefusal}
use Rattle.quast_text.specs.Faults.{text_fault}
use Rattle.quast_text.specs.declared.refusal.TextRefusal.{TextRefusal}
use Rattle.leaf_certificate.specs.Faults.{certificate_fault}
use Rattle.leaf_certificate.specs.declared.refusal.CertificateRefusal.{CertificateRefusal}
use Rattle.certificate_check.specs.Faults.{spot_of}
use Rattle.pip_model.specs.Check.{Rejected, Unfit}
use Rattle.pip_problem.specs.declared.refusal.Refusal.TheVariants as run
use Rattle.quast_pieces.specs.declared.refusal.PiecesRefusal.{PiecesRefusal}
use Rattle.quast_pieces.specs.declared.refusal.PiecesRefusal.TheVariants as pieces
use Rattle.quast_walk.specs.Faults.{tool_fault}
use Rattle.quast_walk.specs.declared.refusal.ToolRefusal.{ToolRefusal}
use Rattle.item_writing.specs.declared.ending.Ending.{Ending}
use Rattle.item_writing.specs.declared.ending.Ending.TheVariants as ending

-- the ending of a refusal, none where memory was refused
abbrev pub read_ending : ReadRefusal → Option model.Ending
read_ending e = option_map model.fault_ending (read_fault e)

abbrev pub text_ending : TextRefusal → Option model.Ending
text_ending e = option_map model.fault_ending (text_fault e)

abbrev pub certificate_ending : CertificateRefusal → Option model.Ending
certificate_ending e = option_map model.fault_ending (certificate_fault e)

abbrev pub run_ending : Refusal → Option model.Ending
run_ending e = option_map model.refusal_ending (run_fault e)

-- the refusal of pieces as the calculation's
abbrev pub pieces_ending : PiecesRefusal → Ending
pieces_ending pieces.Overflow = ending.Run run.Overflow
pieces_ending pieces.WantOfMemory = ending.WantOfMemory

abbrev pub walk_ending : ToolRefusal → Option model.Ending
walk_ending e = option_map model.tool_ending (tool_fault e)

abbrev pub told : Ending → Option model.Ending
told ending.Usage = Some model.usage_ending
told ending.ReadFault = Some model.read_fault_ending
told ending.WriteFault = Some model.write_fault_ending
told ending.WantOfMemory = None
told ending.InputTooLong = Some model.input_ending
told (ending.Problem e) = read_ending e
told (ending.Answer e) = text_ending e
told (ending.Certificate e) = certificate_ending e
told ending.RationalCertificate = Some model.rational_certificate
told (ending.Rejected s) = Some (model.check_ending (Rejected (spot_of s)))
told (ending.OverflowAt s) = Some (model.check_ending (Unfit (spot_of s)))
told (ending.Run e) = run_ending e
told (ending.Walk e) = walk_ending e

abbrev pub or_memory : Option model.Ending → model.Ending
or_memory e = unwrap_or e model.memory_ending

abbrev pub ending_of : Ending → model.Ending
ending_of e = or_memory (told e)

-- an item is refused, or the memory for it
abbrev pub IsOfItem : Ending → Type 0
IsOfItem ending.Usage = ⊥
IsOfItem ending.ReadFault = ⊥
IsOfItem ending.WriteFault = ⊥
IsOfItem ending.InputTooLong = ⊥
IsOfItem e = ⊤
