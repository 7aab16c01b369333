use Rattle.form_run.proofs.Words.{◌≡◌, ◌+◌, length}
use Rattle.form_run.proofs.starting.unit_forms.Given as goal

abbrev pub invariant-loop-c : goal.invariant-loop-c
invariant-loop-c l = record {
  size : l.columns.size ≡ l.n + 1;
  lists : length l.columns.lists ≡ l.c;
  unknowns : l.room.row.unknowns ≡ l.n;
  rows : length l.room.row.rows ≡ l.c;
}
