use Rattle.short_row.proofs.Words.{◌≡◌, All, IsShort, combined}
use Rattle.std.proofs.Common.{◌*◌}
use Rattle.short_row.proofs.halves.combine_pairs.Given as goal

abbrev pub invariant-loop-k : goal.invariant-loop-k
invariant-loop-k l = record { value : l.r ≡ combined l.by.of_row l.fn.r l.by.of_pivot l.s (2 * l.k); short : All IsShort l.r }
