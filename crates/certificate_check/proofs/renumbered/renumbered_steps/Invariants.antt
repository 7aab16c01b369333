use Rattle.certificate_check.proofs.Words.{◌≡◌, take, map, renumbered, index_of}
use Rattle.certificate_check.proofs.renumbered.renumbered_steps.Given as goal

abbrev pub invariant-loop-step : goal.invariant-loop-step
invariant-loop-step l = l.made.items ≡ map (renumbered (index_of l.by)) (take l.step-index l.steps)
