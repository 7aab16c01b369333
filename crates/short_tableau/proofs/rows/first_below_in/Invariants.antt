use Rattle.short_tableau.proofs.Words.{◌≡◌, drop, negative_from, rows_in}
use Rattle.short_tableau.proofs.rows.first_below_in.Given as goal

abbrev pub invariant-loop-i : goal.invariant-loop-i
invariant-loop-i l = negative_from l.i (drop l.i (rows_in l.unknowns l.rows l.numbers)) ≡ negative_from 0 (rows_in l.unknowns l.rows l.numbers)
