use Rattle.tableau_row.proofs.Words.{◌≡◌, drop, combine_listed, all_fit}
use Rattle.tableau_row.proofs.elimination.check_each.Given as goal

abbrev pub invariant-loop-i : goal.invariant-loop-i
invariant-loop-i l = all_fit (combine_listed l.a (drop l.i l.r) l.b (drop l.i l.s)) ≡ all_fit (combine_listed l.a l.r l.b l.s)
