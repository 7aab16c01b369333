use Rattle.short_tableau.proofs.Words.{◌≡◌, drop, take, fraction_from, first_fraction}
use Rattle.short_tableau.proofs.short_table.ShortTableau.first_fraction.Given as goal

abbrev pub invariant-loop-i : goal.invariant-loop-i
invariant-loop-i l = fraction_from l.i (drop l.i (take l.self.unknowns l.self.rows)) ≡ first_fraction l.self.unknowns l.self.rows
