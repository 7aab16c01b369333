use Rattle.text_printing.proofs.Spellings.{begins_more}
use Rattle.leaf_certificate.proofs.print.put_divisor.Goals as goal

pub returns-clause-kept : goal.returns-clause-kept
returns-clause-kept c = begins_more _ _ _ c.in_ok-put_mark.ensures.kept.rest c.in_ok-put_mark.ensures.kept.is c.put_number.ensures.kept
