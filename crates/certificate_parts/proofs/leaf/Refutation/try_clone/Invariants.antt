use Rattle.std.proofs.Common.{◌≡◌, take}
use Rattle.certificate_parts.proofs.leaf.Refutation.try_clone.Given as goal

abbrev pub invariant-loop-step : goal.invariant-loop-step
invariant-loop-step l = l.made ≡ take l.step-index l.steps
