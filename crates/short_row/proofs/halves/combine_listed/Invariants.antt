use Rattle.short_row.proofs.Words.{◌≡◌, All, IsShort, combined}
use Rattle.short_row.proofs.halves.combine_listed.Given as goal

abbrev pub invariant-loop-i : goal.invariant-loop-i
invariant-loop-i l = record { value : l.r ≡ combined l.by.of_row l.fn.r l.by.of_pivot l.s l.i; short : All IsShort l.r }
