use Rattle.certificate_check.proofs.Words.{◌≡◌, ◌++◌, take, drop, common_front}
use Rattle.certificate_check.proofs.common.common_len.Given as goal

abbrev pub invariant-loop-i : goal.invariant-loop-i
invariant-loop-i l = common_front l.steps l.other ≡ take l.i l.steps ++ common_front (drop l.i l.steps) (drop l.i l.other)
