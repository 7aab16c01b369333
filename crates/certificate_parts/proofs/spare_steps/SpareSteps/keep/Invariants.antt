use Rattle.std.specs.Prelude.{⊤, length}
use Rattle.certificate_parts.proofs.spare_steps.SpareSteps.keep.Given as goal

abbrev pub invariant-loop-proofs : goal.invariant-loop-proofs
invariant-loop-proofs l = ⊤

abbrev pub decreases-loop-proofs : goal.decreases-loop-proofs
decreases-loop-proofs l = length l.leaves.items
