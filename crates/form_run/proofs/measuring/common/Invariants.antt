use Rattle.form_run.proofs.Words.{pos, ◌≤ℤ◌, IsShort}
use Rattle.form_run.proofs.measuring.common.Given as goal

abbrev pub invariant-loop-j : goal.invariant-loop-j
invariant-loop-j l = record { positive : pos 1 ≤ℤ l.found; short : IsShort l.found }
