use Rattle.promised.proofs.problems.is_feasible.Goals as goal

pub returns : goal.returns
returns c = record { listed = c.is_feasible.ensures.listed; value = c.is_feasible.ensures.value }
