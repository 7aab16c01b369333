use Rattle.leaf_check.proofs.Words.{◌≡◌, drop, length, All, put_in, put_in_listed, all_fit, Fits}
use Rattle.leaf_check.proofs.goals.put_in.Given as goal

abbrev pub invariant-loop-i : goal.invariant-loop-i
invariant-loop-i l =
    (all_fit (put_in_listed l.sum (drop l.i l.row) (drop l.i l.components)) ≡ all_fit (put_in_listed l.fn.sum l.row l.components))
    × (put_in l.sum (drop l.i l.row) (drop l.i l.components) ≡ put_in l.fn.sum l.row l.components)
    × All Fits l.sum
    × (length l.sum ≡ length l.fn.sum)
