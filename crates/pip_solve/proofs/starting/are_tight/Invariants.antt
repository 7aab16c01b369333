use Rattle.pip_solve.proofs.Words.{◌≡◌, map, take, tighten}
use Rattle.pip_solve.proofs.starting.are_tight.Given as goal

abbrev pub invariant-loop-row : goal.invariant-loop-row
invariant-loop-row l = map tighten (take l.row-index l.rows) ≡ take l.row-index l.rows
