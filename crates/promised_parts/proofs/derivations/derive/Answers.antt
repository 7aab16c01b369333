use Rattle.promised_parts.proofs.derivations.derive.Goals as goal

pub returns : goal.returns
returns c = c.derive.ensures.gives
