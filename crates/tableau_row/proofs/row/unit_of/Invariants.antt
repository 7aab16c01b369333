use Rattle.tableau_row.proofs.Words.{◌≡◌, take, replicate, pos}
use Rattle.tableau_row.proofs.row.unit_of.Given as goal

abbrev pub invariant-loop-i : goal.invariant-loop-i
invariant-loop-i l = take l.i l.coefs ≡ replicate l.i (pos 0)
