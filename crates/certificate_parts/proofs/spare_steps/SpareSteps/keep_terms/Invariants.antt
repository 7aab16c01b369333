use Rattle.std.specs.Prelude.{⊤, length}
use Rattle.certificate_parts.proofs.spare_steps.SpareSteps.keep_terms.Given as goal

abbrev pub invariant-loop-steps : goal.invariant-loop-steps
invariant-loop-steps l = ⊤

abbrev pub decreases-loop-steps : goal.decreases-loop-steps
decreases-loop-steps l = length l.steps.items
