use Rattle.same.proofs.comparing.compared.Goals as goal

pub returns : goal.returns
returns c = rw (← c.in_ok-context.ensures.width, ← c.in_ok-context.ensures.forms) c.compared_on-found.ensures
