use Rattle.promised_steps.proofs.rows.entering.Goals as goal

pub returns : goal.returns
returns c = record { listed = c.entering.ensures.listed; value = c.entering.ensures.value }
