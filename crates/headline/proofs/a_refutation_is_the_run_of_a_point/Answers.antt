use Rattle.headline.proofs.Words.{narrow_of}
use Rattle.refutation_laws.proofs.SameRun.{refute-same}
use Rattle.headline.proofs.a_refutation_is_the_run_of_a_point.Goals as goal

pub returns : goal.returns
returns c = λ w K places first v formed. refute-same w K places first v (narrow_of w K formed)
