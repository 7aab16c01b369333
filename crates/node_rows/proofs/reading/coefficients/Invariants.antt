use Rattle.node_rows.proofs.Words.{◌≡◌, map, count_from, summed}
use Rattle.node_rows.proofs.reading.coefficients.Given as goal

abbrev pub invariant-loop-k : goal.invariant-loop-k
invariant-loop-k l = l.made.items ≡ map (summed l.rows l.basis l.form) (count_from 0 l.k)
