use Rattle.polylib_reader.proofs.Words.{◌≡◌, ◌-◌, ◌≤◌, length, matrix_rows, with_front}
use Rattle.polylib_reader.proofs.matrix.matrix_rows.Given as goal

abbrev pub invariant-loop : goal.invariant-loop
invariant-loop l = record {
  so_far : with_front l.forms.items (matrix_rows l.bytes l.shape.kind l.shape.most l.shape.width l.count (l.shape.rows - l.counter) l.at) ≡ matrix_rows l.bytes l.shape.kind l.shape.most l.shape.width 0 l.shape.rows l.place;
  count : l.count ≤ l.shape.most;
  behind : l.place ≤ l.at;
  within : l.at ≤ length l.bytes;
}
