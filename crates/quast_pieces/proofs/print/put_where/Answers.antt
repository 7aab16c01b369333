use Rattle.quast_text.proofs.Spellings.{begins_through}
use Rattle.quast_pieces.proofs.print.put_where.Goals as goal

pub returns-in_err-put_form-clause-kept : goal.returns-in_err-put_form-clause-kept
returns-in_err-put_form-clause-kept c = begins_through _ _ _ c.in_ok-put.ensures.kept c.in_err-put_form.ensures.kept

pub returns-clause-kept : goal.returns-clause-kept
returns-clause-kept c = begins_through _ _ _ c.in_ok-put.ensures.kept (begins_through _ _ _ c.in_ok-put_form.ensures.kept c.put-2.ensures.kept)
