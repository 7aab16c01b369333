use Rattle.text_printing.proofs.Spellings.{begins_more}
use Rattle.leaf_certificate.proofs.print.put_format.Goals as goal

pub returns-in_err-put_number-clause-kept : goal.returns-in_err-put_number-clause-kept
returns-in_err-put_number-clause-kept c = begins_more _ _ _ c.in_ok-put.ensures.kept.rest c.in_ok-put.ensures.kept.is c.in_err-put_number.ensures.kept

pub returns-clause-kept : goal.returns-clause-kept
returns-clause-kept c = begins_more _ _ _ c.in_ok-put.ensures.kept.rest c.in_ok-put.ensures.kept.is (begins_more _ _ _ c.in_ok-put_number.ensures.kept.rest c.in_ok-put_number.ensures.kept.is c.put-2.ensures.kept)
