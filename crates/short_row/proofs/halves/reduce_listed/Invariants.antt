use Rattle.short_row.proofs.Words.{◌≡◌, pos, All, IsShort, combined}
use Rattle.short_numbers.proofs.Places.{reached}
use Rattle.short_row.proofs.halves.reduce_listed.Given as goal

abbrev pub invariant-loop-k : goal.invariant-loop-k
invariant-loop-k l = record { value : l.r ≡ combined (pos 1) l.fn.r l.b l.s (reached l.s l.k); short : All IsShort l.r }
