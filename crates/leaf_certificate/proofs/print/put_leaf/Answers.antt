use Rattle.text_printing.proofs.Spellings.{begins_more}
use Rattle.leaf_certificate.proofs.print.put_leaf.Goals as goal

pub returns-in_err-put_groups-clause-kept : goal.returns-in_err-put_groups-clause-kept
returns-in_err-put_groups-clause-kept c = begins_more _ _ _ c.in_ok-put_mark.ensures.kept.rest c.in_ok-put_mark.ensures.kept.is c.in_err-put_groups.ensures.kept

pub returns-clause-kept : goal.returns-clause-kept
returns-clause-kept c = begins_more _ _ _ c.in_ok-put_mark.ensures.kept.rest c.in_ok-put_mark.ensures.kept.is (begins_more _ _ _ c.in_ok-put_groups.ensures.kept.rest c.in_ok-put_groups.ensures.kept.is c.put_mark-2.ensures.kept)
