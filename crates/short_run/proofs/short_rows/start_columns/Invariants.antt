use Rattle.short_run.proofs.Words.{◌≡◌, map, count_from, unit_row}
use Rattle.short_run.proofs.short_rows.start_columns.Given as goal

abbrev pub invariant-loop-c : goal.invariant-loop-c
invariant-loop-c l = l.rows ≡ record { unknowns = l.places; width = 0; rows = map (unit_row l.places 0) (count_from 0 l.c) }
