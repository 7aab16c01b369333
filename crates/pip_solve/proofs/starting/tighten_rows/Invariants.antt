use Rattle.pip_solve.proofs.Words.{◌≡◌, map, take, tighten}
use Rattle.pip_solve.proofs.starting.tighten_rows.Given as goal

abbrev pub invariant-loop-row : goal.invariant-loop-row
invariant-loop-row l = l.forms.items ≡ map tighten (take l.row-index l.rows)
