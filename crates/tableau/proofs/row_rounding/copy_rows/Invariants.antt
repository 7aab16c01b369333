use Rattle.tableau.proofs.Words.{◌≡◌, take, rows_kept, with_rows}
use Rattle.tableau.proofs.row_rounding.copy_rows.Given as goal

abbrev pub invariant-loop-one : goal.invariant-loop-one
invariant-loop-one l = l.next ≡ with_rows l.fn.next (rows_kept l.lent.unknowns l.lent.width l.lent.numbers.now (take l.one-index l.kept))
