use Rattle.text_printing.proofs.Spellings.{begins_more}
use Rattle.leaf_certificate.proofs.print.put_term.Goals as goal

pub returns-clause-kept : goal.returns-clause-kept
returns-clause-kept c = begins_more _ _ _ c.in_ok-put_entry.ensures.kept.rest c.in_ok-put_entry.ensures.kept.is c.put_entry-2.ensures.kept
