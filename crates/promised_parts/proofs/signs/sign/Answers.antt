use Rattle.promised_parts.proofs.signs.sign.Goals as goal

pub returns : goal.returns
returns c = c.sign.ensures.gives
