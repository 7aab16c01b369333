-- The definitions' words for the refusals of the code; want of memory has none.
use Rattle.std.specs.Prelude.{Option, Some, None}
use Rattle.pip_model.specs.Reading as reading
use Rattle.quast_text.specs.declared.refusal.TextRefusal.{TextRefusal}
use Rattle.quast_text.specs.declared.refusal.TextRefusal.TheVariants as refusal

abbrev pub text_fault : TextRefusal → Option reading.Fault
text_fault (refusal.Syntax place) = Some (reading.Syntax place)
text_fault (refusal.Wide place) = Some (reading.Wide place)
text_fault refusal.Nesting = Some reading.TooNested
text_fault (refusal.Components z) = Some (reading.Components z)
text_fault refusal.WantOfMemory = None
