use Rattle.certificate_check.proofs.Words.{◌≡◌, arith}
use Rattle.certificate_check.proofs.Commons.{common_done}
use Rattle.certificate_check.proofs.common.common_len.Goals as goal

pub returns : goal.returns
returns c =
    let same : c.min-most.result ≡ c.loop-i.i = omega arith in
    rw same (common_done c.args.steps.now c.args.other.now c.loop-i.i (λ k. omega arith) c.loop-i.invariant)
