use Rattle.std.proofs.Common.{◌≡◌, ◌∙◌, ap, ◌++◌, length, arith}
use Rattle.quast.specs.Trees.{tree_of}
use Rattle.walk_laws.proofs.PieceSteps.{spell_under}
use Rattle.quast_text.proofs.Spellings.{begins_through}
use Rattle.quast_pieces.proofs.Written.{begins_same}
use Rattle.quast_pieces.proofs.Choices.{choice_appended, choice_listed, path_back}
use Rattle.quast_pieces.proofs.print.+pieces.Goals as goal

pub put_pieces-returns-in_err-opposite-in-Select-clause-kept : goal.put_pieces-returns-in_err-opposite-in-Select-clause-kept
put_pieces-returns-in_err-opposite-in-Select-clause-kept t c = begins_same _

pub put_pieces-returns-in_err-put_pieces_where-in-Select-clause-kept : goal.put_pieces-returns-in_err-put_pieces_where-in-Select-clause-kept
put_pieces-returns-in_err-put_pieces_where-in-Select-clause-kept t c = c.in_err-put_pieces_where-in-Select.ensures.kept

pub put_pieces-returns-in_ok-put_pieces_where-in-Select-clause-kept : goal.put_pieces-returns-in_ok-put_pieces_where-in-Select-clause-kept
put_pieces-returns-in_ok-put_pieces_where-in-Select-clause-kept t c = begins_through _ _ _ c.in_ok-put_pieces_where-in-Select.ensures.kept c.put_pieces_where-in-Select.ensures.kept

pub put_pieces-returns-in_err-put_definition-in-Define-clause-kept : goal.put_pieces-returns-in_err-put_definition-in-Define-clause-kept
put_pieces-returns-in_err-put_definition-in-Define-clause-kept t c = begins_same _

pub put_pieces-returns-in_err-put_pieces-in-Define-clause-kept : goal.put_pieces-returns-in_err-put_pieces-in-Define-clause-kept
put_pieces-returns-in_err-put_pieces-in-Define-clause-kept t c = c.in_err-put_pieces-in-Define.ensures.kept

pub put_pieces-returns-in_ok-put_pieces-in-Define-clause-kept : goal.put_pieces-returns-in_ok-put_pieces-in-Define-clause-kept
put_pieces-returns-in_ok-put_pieces-in-Define-clause-kept t c = c.in_ok-put_pieces-in-Define.ensures.kept

pub put_pieces_where-returns-in_err-put_where-clause-kept : goal.put_pieces_where-returns-in_err-put_where-clause-kept
put_pieces_where-returns-in_err-put_where-clause-kept t c = begins_same _

pub put_pieces_where-returns-in_err-put_pieces-clause-kept : goal.put_pieces_where-returns-in_err-put_pieces-clause-kept
put_pieces_where-returns-in_err-put_pieces-clause-kept t c = c.in_err-put_pieces.ensures.kept

pub put_pieces_where-returns-clause-kept : goal.put_pieces_where-returns-clause-kept
put_pieces_where-returns-clause-kept t c = c.in_ok-put_pieces.ensures.kept

pub put_pieces-returns-in_ok-put_pieces_where-in-Select-clause-ok : goal.put_pieces-returns-in_ok-put_pieces_where-in-Select-clause-ok
put_pieces-returns-in_ok-put_pieces_where-in-Select-clause-ok t c =
    choice_appended _ _ _ _ c.args.path.now.items _ c.in-Select.v _ _ _ (tree_of c.args.node.now) (ap tree_of c.in-Select.is) c.in_ok-put_pieces_where-in-Select.ensures.path c.in_ok-opposite-in-Select.ensures.value
    (rw c.deref-in-Select.ensures at c.in_ok-put_pieces_where-in-Select.ensures.ok) (rw c.deref-in-Select-2.ensures at c.put_pieces_where-in-Select.ensures.ok)

pub put_pieces-returns-in_ok-put_pieces_where-in-Select-clause-listed : goal.put_pieces-returns-in_ok-put_pieces_where-in-Select-clause-listed
put_pieces-returns-in_ok-put_pieces_where-in-Select-clause-listed t c =
    choice_listed _ _ c.in-Select.v _ _ (tree_of c.args.node.now) (ap tree_of c.in-Select.is) c.in_ok-opposite-in-Select.ensures.listed
    (rw c.deref-in-Select.ensures at c.in_ok-put_pieces_where-in-Select.ensures.listed) (rw c.deref-in-Select-2.ensures at c.put_pieces_where-in-Select.ensures.listed)

pub put_pieces-returns-in_ok-put_pieces_where-in-Select-clause-path : goal.put_pieces-returns-in_ok-put_pieces_where-in-Select-clause-path
put_pieces-returns-in_ok-put_pieces_where-in-Select-clause-path t c = rw c.in_ok-put_pieces_where-in-Select.ensures.path at c.put_pieces_where-in-Select.ensures.path

pub put_pieces-returns-in_ok-put_pieces-in-Define-clause-path : goal.put_pieces-returns-in_ok-put_pieces-in-Define-clause-path
put_pieces-returns-in_ok-put_pieces-in-Define-clause-path t c =
    let all : c.len-above.result ≡ length c.args.path.now.items = omega (arith, c.args.path.now.ok.0) in
    path_back c.args.path.now.items _ _ _ _ _ all c.in_ok-put_definition-in-Define.ensures.ok c.in_ok-put_pieces-in-Define.ensures.path c.truncate.ensures.items

pub put_pieces_where-returns-clause-ok : goal.put_pieces_where-returns-clause-ok
put_pieces_where-returns-clause-ok t c = c.in_ok-put_pieces.ensures.ok ∙ ap (λ p. c.args.out.now.items ++ spell_under p (tree_of c.args.node.now)) c.in_ok-put_where.ensures.ok

pub put_pieces_where-returns-clause-path : goal.put_pieces_where-returns-clause-path
put_pieces_where-returns-clause-path t c =
    let all : c.len-above.result ≡ length c.args.path.now.items = omega (arith, c.args.path.now.ok.0) in
    path_back c.args.path.now.items _ _ _ _ _ all c.in_ok-put_where.ensures.ok c.in_ok-put_pieces.ensures.path c.truncate.ensures.items
