use Rattle.node_rows.proofs.Words.{pos, ◌≤ℤ◌, IsShort}
use Rattle.node_rows.proofs.basis.common.Given as goal

abbrev pub invariant-loop-j : goal.invariant-loop-j
invariant-loop-j l = record { positive : pos 1 ≤ℤ l.found; short : IsShort l.found }
