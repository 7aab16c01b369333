use Rattle.certificate_check.proofs.Words.{◌≡◌, ◌++◌, replicate, counts_from}
use Rattle.certificate_check.proofs.sharing.list_sizes.Given as goal

abbrev pub invariant-loop-i : goal.invariant-loop-i
invariant-loop-i l = l.made.items ≡ replicate l.ones 1 ++ counts_from l.first l.i
