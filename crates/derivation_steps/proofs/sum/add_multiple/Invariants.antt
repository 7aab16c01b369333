use Rattle.derivation_steps.proofs.Words.{◌≡◌, ◌++◌, drop, take, length, All, plus_term, all_fit, Fits}
use Rattle.derivation_steps.proofs.Sums.{entries_listed}
use Rattle.derivation_steps.proofs.sum.add_multiple.Given as goal

abbrev pub invariant-loop-i : goal.invariant-loop-i
invariant-loop-i l =
    (all_fit (entries_listed (drop l.i l.sum) l.m (drop l.i l.c)) ≡ all_fit (entries_listed l.fn.sum l.m l.c))
    × (take l.i l.sum ++ plus_term (drop l.i l.sum) l.m (drop l.i l.c) ≡ plus_term l.fn.sum l.m l.c)
    × All Fits l.sum
    × (length l.sum ≡ length l.c)
