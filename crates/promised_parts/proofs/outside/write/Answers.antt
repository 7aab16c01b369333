use Rattle.promised_parts.proofs.outside.write.Goals as goal

pub returns : goal.returns
returns g c = c.write.ensures.writer
