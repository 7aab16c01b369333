use Rattle.least.proofs.choosing.chosen.Goals as goal

pub returns : goal.returns
returns c = rw (← c.in_ok-context.ensures.width, ← c.in_ok-context.ensures.forms) c.chosen_on-found.ensures
