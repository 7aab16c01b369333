use Rattle.text_printing.proofs.Spellings.{begins_more}
use Rattle.leaf_certificate.proofs.print.put_refutation.Goals as goal

pub returns-in_err-put_steps-clause-kept : goal.returns-in_err-put_steps-clause-kept
returns-in_err-put_steps-clause-kept c = begins_more _ _ _ c.in_ok-put_mark.ensures.kept.rest c.in_ok-put_mark.ensures.kept.is c.in_err-put_steps.ensures.kept

pub returns-clause-kept : goal.returns-clause-kept
returns-clause-kept c = begins_more _ _ _ c.in_ok-put_mark.ensures.kept.rest c.in_ok-put_mark.ensures.kept.is (begins_more _ _ _ c.in_ok-put_steps.ensures.kept.rest c.in_ok-put_steps.ensures.kept.is c.put_mark-2.ensures.kept)
