use Rattle.text_printing.proofs.Spellings.{begins_more}
use Rattle.leaf_certificate.proofs.print.put_head.Goals as goal

pub returns-in_err-put_vector-clause-kept : goal.returns-in_err-put_vector-clause-kept
returns-in_err-put_vector-clause-kept c = begins_more _ _ _ c.in_ok-put_format.ensures.kept.rest c.in_ok-put_format.ensures.kept.is c.in_err-put_vector.ensures.kept

pub returns-clause-kept : goal.returns-clause-kept
returns-clause-kept c = begins_more _ _ _ c.in_ok-put_format.ensures.kept.rest c.in_ok-put_format.ensures.kept.is (begins_more _ _ _ c.in_ok-put_vector.ensures.kept.rest c.in_ok-put_vector.ensures.kept.is c.put.ensures.kept)
