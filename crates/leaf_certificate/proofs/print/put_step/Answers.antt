use Rattle.text_printing.proofs.Spellings.{begins_more}
use Rattle.leaf_certificate.proofs.print.put_step.Goals as goal

pub returns-in_err-put_terms-clause-kept : goal.returns-in_err-put_terms-clause-kept
returns-in_err-put_terms-clause-kept c = begins_more _ _ _ c.in_ok-put_divisor.ensures.kept.rest c.in_ok-put_divisor.ensures.kept.is c.in_err-put_terms.ensures.kept

pub returns-clause-kept : goal.returns-clause-kept
returns-clause-kept c = begins_more _ _ _ c.in_ok-put_divisor.ensures.kept.rest c.in_ok-put_divisor.ensures.kept.is (begins_more _ _ _ c.in_ok-put_terms.ensures.kept.rest c.in_ok-put_terms.ensures.kept.is c.put_mark.ensures.kept)
