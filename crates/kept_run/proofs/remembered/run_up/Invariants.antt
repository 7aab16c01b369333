use Rattle.kept_run.proofs.Words.{◌≡◌, ◌≤◌, List, length, Row, IsFormed, IsReplay}
use Rattle.kept_run.proofs.remembered.run_up.Given as goal

abbrev pub invariant-loop : goal.invariant-loop
invariant-loop l = record {
  formed : IsFormed l.m;
  unknowns : l.m.end.unknowns ≡ l.fn.m.end.unknowns;
  rows : length l.m.end.rows ≡ length l.fn.m.end.rows;
  columns : length l.m.columns.items ≤ l.counter;
  replay : (first : List Row) → IsReplay first l.fn.m → IsReplay first l.m;
}
