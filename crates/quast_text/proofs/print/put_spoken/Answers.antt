use Rattle.quast_text.proofs.Spellings.{begins_through}
use Rattle.quast_text.proofs.print.put_spoken.Goals as goal

pub returns-in_err-put_solution-clause-kept : goal.returns-in_err-put_solution-clause-kept
returns-in_err-put_solution-clause-kept c = begins_through _ _ _ c.in_ok-put_comment.ensures.kept c.in_err-put_solution.ensures.kept

pub returns-clause-kept : goal.returns-clause-kept
returns-clause-kept c = begins_through _ _ _ (begins_through _ _ _ c.in_ok-put_comment.ensures.kept c.in_ok-put_solution.ensures.kept) c.put_mark.ensures.kept
