use Rattle.node_rows.proofs.Words.{◌≡◌, map, count_from, placed}
use Rattle.node_rows.proofs.reading.places.Given as goal

abbrev pub invariant-loop-m : goal.invariant-loop-m
invariant-loop-m l = l.made.items ≡ map (placed l.rows l.basis l.form) (count_from 0 l.m)
