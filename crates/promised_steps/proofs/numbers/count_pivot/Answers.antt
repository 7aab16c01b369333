use Rattle.promised_steps.proofs.numbers.count_pivot.Goals as goal

pub returns : goal.returns
returns c = c.count_pivot.ensures.gives
