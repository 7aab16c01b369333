use Rattle.quast_text.proofs.Spellings.{begins_through}
use Rattle.quast_text.proofs.print.put_divisor.Goals as goal

pub returns-clause-kept : goal.returns-clause-kept
returns-clause-kept c = begins_through _ _ _ c.in_ok-put_entry.ensures.kept c.put_mark.ensures.kept
