use Rattle.std.proofs.Common.{◌≡◌, drop}
use Rattle.pip_model.specs.Simplified.{same_components}
use Rattle.quast_simplify.proofs.same.are_same_components.Given as goal

abbrev pub invariant-loop-i : goal.invariant-loop-i
invariant-loop-i l = same_components (drop l.i l.a) (drop l.i l.b) ≡ same_components l.a l.b
