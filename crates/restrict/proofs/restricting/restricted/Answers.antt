use Rattle.restrict.proofs.restricting.restricted.Goals as goal

pub returns : goal.returns
returns c = rw (← c.in_ok-context.ensures.width, ← c.in_ok-context.ensures.forms) c.restricted_on-found.ensures
