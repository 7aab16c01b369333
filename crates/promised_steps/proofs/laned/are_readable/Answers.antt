use Rattle.promised_steps.proofs.laned.are_readable.Goals as goal

pub returns : goal.returns
returns c = c.are_readable.ensures
