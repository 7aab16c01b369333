use Rattle.tableau_row.proofs.Words.{◌≡◌, drop, take, ◌++◌, All, IsTrue, combine, Fits, IsShort}
use Rattle.tableau_row.proofs.short.combine_short.Given as goal

abbrev pub invariant-loop-i : goal.invariant-loop-i
invariant-loop-i l = record {
  value : l.r ≡ combine l.a (take l.i l.fn.r) l.b (take l.i l.s) ++ drop l.i l.fn.r;
  fits : All Fits l.r;
  short : IsTrue l.short → All IsShort l.r;
}
