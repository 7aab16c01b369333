use Rattle.certificate_check.proofs.Words.{◌≡◌}
use Rattle.certificate_check.proofs.renumbered.refutation.Given as goal

abbrev pub invariant-loop-step : goal.invariant-loop-step
invariant-loop-step l = l.made ≡ l.yielded
