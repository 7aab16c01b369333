use Rattle.tableau.proofs.Words.{◌≡◌, IsTrue, take, all_fit, turned, turned_listed, with_rows, row_of}
use Rattle.tableau.proofs.exchange.turn_rows.Given as goal

abbrev pub invariant-loop-one : goal.invariant-loop-one
invariant-loop-one l = record {
  rows : l.next ≡ with_rows l.fn.next (turned (row_of l.pivot.p) l.pivot.c l.pivot.lent (take l.one-index l.kept));
  listed : IsTrue (all_fit (turned_listed (row_of l.pivot.p) l.pivot.c l.pivot.lent (take l.one-index l.kept)));
}
