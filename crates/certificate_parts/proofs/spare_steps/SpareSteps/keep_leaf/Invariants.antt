use Rattle.std.specs.Prelude.{⊤, length}
use Rattle.certificate_parts.proofs.spare_steps.SpareSteps.keep_leaf.Given as goal

abbrev pub invariant-loop-items : goal.invariant-loop-items
invariant-loop-items l = ⊤

abbrev pub decreases-loop-items : goal.decreases-loop-items
decreases-loop-items l = length l.items.items
