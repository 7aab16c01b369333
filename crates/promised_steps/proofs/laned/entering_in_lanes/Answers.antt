use Rattle.promised_steps.proofs.laned.entering_in_lanes.Goals as goal

pub returns : goal.returns
returns c = record { value = c.entering.ensures.value; candidate = c.entering.ensures.candidate }
