use Rattle.short_tableau.proofs.Words.{◌≡◌, eliminated, mapped, IsDense, rows_in, row_of_numbers}
use Rattle.short_tableau.proofs.rows.turn_rows.Given as goal

abbrev pub invariant-loop-i : goal.invariant-loop-i
invariant-loop-i l = record {
  dense : IsDense l.pivot.unknowns l.rows l.numbers;
  rows : rows_in l.pivot.unknowns l.rows l.numbers ≡ mapped (eliminated (row_of_numbers l.pivot.unknowns l.pivot.row.now) l.pivot.column) l.i (rows_in l.pivot.unknowns l.rows l.fn.numbers);
}
