use Rattle.short_row.proofs.Words.{◌≡◌, drop, take, ◌++◌, All, combine, floor_divided, IsShort}
use Rattle.short_row.proofs.wide.divide_entries.Given as goal

abbrev pub invariant-loop-i : goal.invariant-loop-i
invariant-loop-i l = record {
  value : l.r ≡ take l.i (floor_divided l.d (combine l.by.of_row l.fn.r l.by.of_pivot l.s)) ++ drop l.i l.fn.r;
  short : All IsShort l.r;
}
