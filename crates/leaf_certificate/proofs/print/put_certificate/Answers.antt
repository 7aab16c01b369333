use Rattle.leaf_certificate.proofs.Words.{rules, codes, spell_leaves, spell_head, begins_more}
use Rattle.leaf_certificate.proofs.Spellings.{joined}
use Rattle.leaf_certificate.proofs.print.put_certificate.Goals as goal

pub returns-clause-ok : goal.returns-clause-ok
returns-clause-ok c =
    let certificate = c.args.c.now in
    joined c.put.result c.args.out.now.items (spell_head certificate.shares certificate.vector) (spell_leaves certificate.shares certificate.leaves) (codes ")\n") _ _ _
    c.in_ok-put_head.ensures.ok (search rules) c.put.ensures.ok

pub returns-in_err-put_leaves-clause-kept : goal.returns-in_err-put_leaves-clause-kept
returns-in_err-put_leaves-clause-kept c = begins_more _ _ _ c.in_ok-put_head.ensures.kept.rest c.in_ok-put_head.ensures.kept.is c.in_err-put_leaves.ensures.kept

pub returns-clause-kept : goal.returns-clause-kept
returns-clause-kept c = begins_more _ _ _ c.in_ok-put_head.ensures.kept.rest c.in_ok-put_head.ensures.kept.is (begins_more _ _ _ c.in_ok-put_leaves.ensures.kept.rest c.in_ok-put_leaves.ensures.kept.is c.put.ensures.kept)
