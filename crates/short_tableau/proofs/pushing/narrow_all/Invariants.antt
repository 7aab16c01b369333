use Rattle.short_tableau.proofs.Words.{◌≡◌, ◌++◌, take, drop, All, IsShort}
use Rattle.short_tableau.proofs.pushing.narrow_all.Given as goal

abbrev pub invariant-loop-i : goal.invariant-loop-i
invariant-loop-i l = record {
  items : l.numbers ≡ take l.i l.entries ++ drop l.i l.fn.numbers;
  short : All IsShort (take l.i l.entries);
}
