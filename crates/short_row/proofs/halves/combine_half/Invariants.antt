use Rattle.short_row.proofs.Words.{◌≡◌, All, IsShort, combined}
use Rattle.short_row.proofs.halves.combine_half.Given as goal

abbrev pub invariant-loop-i : goal.invariant-loop-i
invariant-loop-i l = record { value : l.r ≡ combined l.a l.fn.r l.b l.s l.i; short : All IsShort l.r }
