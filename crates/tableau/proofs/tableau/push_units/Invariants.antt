use Rattle.tableau.proofs.Words.{◌≡◌, map, count_from, unit_row}
use Rattle.tableau.proofs.tableau.push_units.Given as goal

abbrev pub invariant-loop-c : goal.invariant-loop-c
invariant-loop-c l = l.rows ≡ record l.fn.rows { rows = map (unit_row l.fn.rows.unknowns l.fn.rows.width) (count_from 0 l.c) }
