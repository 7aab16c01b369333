use Rattle.certificate_items.proofs.Words.{err_from_is_err_and}
use Rattle.certificate_items.proofs.Triples.{share_refused}
use Rattle.certificate_items.proofs.share.ShareItems.put.Goals as goal

pub returns-in_err-accept_alone-clause-text : goal.returns-in_err-accept_alone-clause-text
returns-in_err-accept_alone-clause-text c =
    let p = err_from_is_err_and c.from_residual.result c.from_residual.ensures.1 in
    rw (p.1, p.2) (share_refused _ _ _ c.in_err-accept_alone.ensures.found)
