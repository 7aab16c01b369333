use Rattle.quast_text.proofs.Spellings.{begins_through}
use Rattle.quast_pieces.proofs.print.put_spoken.Goals as goal

pub returns-in_err-put_solution-clause-kept : goal.returns-in_err-put_solution-clause-kept
returns-in_err-put_solution-clause-kept c = begins_through _ _ _ c.in_ok-put_comment.ensures.kept c.in_err-put_solution.ensures.kept

pub returns-in_err-put-clause-kept : goal.returns-in_err-put-clause-kept
returns-in_err-put-clause-kept c = begins_through _ _ _ c.in_ok-put_comment.ensures.kept (begins_through _ _ _ c.in_ok-put_solution.ensures.kept c.in_err-put.ensures.kept)

pub returns-clause-kept : goal.returns-clause-kept
returns-clause-kept c = begins_through _ _ _ c.in_ok-put_comment.ensures.kept (begins_through _ _ _ c.in_ok-put_solution.ensures.kept c.in_ok-put.ensures.kept)
