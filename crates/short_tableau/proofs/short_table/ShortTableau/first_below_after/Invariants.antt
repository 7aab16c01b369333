use Rattle.short_tableau.proofs.Words.{◌≡◌, drop, negative_from, row_of, turned_by}
use Rattle.short_tableau.proofs.short_table.ShortTableau.first_below_after.Given as goal

abbrev pub invariant-loop-i : goal.invariant-loop-i
invariant-loop-i l = negative_from l.i (drop l.i (turned_by (row_of l.p) l.c l.self.rows)) ≡ negative_from 0 (turned_by (row_of l.p) l.c l.self.rows)
