use Rattle.node_rows.proofs.Words.{ℕ, ◌<◌, pos, ◌≤ℤ◌, placed}
use Rattle.node_rows.proofs.reading.is_nowhere_below.Given as goal

abbrev pub invariant-loop-m : goal.invariant-loop-m
invariant-loop-m l = (k : ℕ) → k < l.m → pos 0 ≤ℤ placed l.rows l.basis l.form k
