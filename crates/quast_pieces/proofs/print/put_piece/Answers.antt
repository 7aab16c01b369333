use Rattle.quast_text.proofs.Spellings.{begins_through}
use Rattle.quast_pieces.proofs.print.put_piece.Goals as goal

pub returns-in_err-put-2-clause-kept : goal.returns-in_err-put-2-clause-kept
returns-in_err-put-2-clause-kept c = begins_through _ _ _ c.in_ok-put.ensures.kept c.in_err-put-2.ensures.kept

pub returns-in_err-put_node-clause-kept : goal.returns-in_err-put_node-clause-kept
returns-in_err-put_node-clause-kept c = begins_through _ _ _ c.in_ok-put.ensures.kept (begins_through _ _ _ c.in_ok-put-2.ensures.kept c.in_err-put_node.ensures.kept)

pub returns-in_err-put-3-clause-kept : goal.returns-in_err-put-3-clause-kept
returns-in_err-put-3-clause-kept c = begins_through _ _ _ c.in_ok-put.ensures.kept (begins_through _ _ _ c.in_ok-put-2.ensures.kept (begins_through _ _ _ c.in_ok-put_node.ensures.kept c.in_err-put-3.ensures.kept))

pub returns-clause-kept : goal.returns-clause-kept
returns-clause-kept c = begins_through _ _ _ c.in_ok-put.ensures.kept (begins_through _ _ _ c.in_ok-put-2.ensures.kept (begins_through _ _ _ c.in_ok-put_node.ensures.kept c.in_ok-put-3.ensures.kept))
