use Rattle.tableau.proofs.Words.{◌≡◌, map, take, widened, row_kept, with_rows}
use Rattle.tableau.proofs.widening.widen_rows.Given as goal

abbrev pub invariant-loop-one : goal.invariant-loop-one
invariant-loop-one l = l.next ≡ with_rows l.fn.next (map (λ one. widened (row_kept l.lent.unknowns l.lent.width l.lent.numbers.now one)) (take l.one-index l.kept))
