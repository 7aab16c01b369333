use Rattle.promised_parts.proofs.outside.read.Goals as goal

pub returns : goal.returns
returns g c = c.read.ensures.reader
