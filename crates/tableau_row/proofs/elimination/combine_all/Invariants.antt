use Rattle.tableau_row.proofs.Words.{◌≡◌, drop, take, ◌++◌, All, IsTrue, combine, combine_listed, all_fit, Fits}
use Rattle.tableau_row.proofs.elimination.combine_all.Given as goal

abbrev pub invariant-loop-i : goal.invariant-loop-i
invariant-loop-i l = record {
  listed : IsTrue (all_fit (combine_listed l.a (drop l.i l.fn.r) l.b (drop l.i l.s)));
  value : l.r ≡ combine l.a (take l.i l.fn.r) l.b (take l.i l.s) ++ drop l.i l.fn.r;
  fits : All Fits l.r;
}
