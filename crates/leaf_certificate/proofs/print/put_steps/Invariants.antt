use Rattle.leaf_certificate.proofs.Words.{◌≡◌, ◌++◌, take, flat_map, spell_step}
use Rattle.leaf_certificate.proofs.print.put_steps.Given as goal

abbrev pub invariant-loop-step : goal.invariant-loop-step
invariant-loop-step l = l.out.items ≡ l.initial.out.items ++ flat_map spell_step (take l.step-index l.steps)
