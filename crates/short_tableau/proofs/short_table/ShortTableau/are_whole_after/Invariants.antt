use Rattle.short_tableau.proofs.Words.{◌≡◌, drop, take, fraction_from, first_fraction, row_of, turned_by}
use Rattle.short_tableau.proofs.short_table.ShortTableau.are_whole_after.Given as goal

abbrev pub invariant-loop-i : goal.invariant-loop-i
invariant-loop-i l = fraction_from l.i (drop l.i (take l.self.unknowns (turned_by (row_of l.p) l.c l.self.rows))) ≡ first_fraction l.self.unknowns (turned_by (row_of l.p) l.c l.self.rows)
