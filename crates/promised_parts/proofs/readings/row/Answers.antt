use Rattle.promised_parts.proofs.readings.row.Goals as goal

pub returns : goal.returns
returns c = c.row.ensures.reads
