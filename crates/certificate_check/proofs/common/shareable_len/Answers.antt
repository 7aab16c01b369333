use Rattle.certificate_check.proofs.Words.{◌≡◌, arith}
use Rattle.certificate_check.proofs.Commons.{share_done}
use Rattle.certificate_check.proofs.common.shareable_len.Goals as goal

pub returns-clause-value : goal.returns-clause-value
returns-clause-value c =
    let same : c.saturating_sub-most.result ≡ c.loop-i.i = omega arith in
    rw same (share_done c.args.numbering.leaf c.args.numbering.own c.args.steps.now c.loop-i.i (omega arith) c.loop-i.invariant)
