use Rattle.kept_run.proofs.Words.{◌≡◌, List, length, drop, Row, IsTurned}
use Rattle.kept_run.proofs.further.turn_by_all.Given as goal

abbrev pub invariant-loop-i : goal.invariant-loop-i
invariant-loop-i l = record {
  unknowns : l.rows.unknowns ≡ l.m.end.unknowns;
  number : length l.rows.rows ≡ length l.fn.rows.rows;
  turned : (now : List Row) → IsTurned (drop l.i l.m.pivots.rows) (drop l.i l.m.columns.items) l.rows.rows now → IsTurned l.m.pivots.rows l.m.columns.items l.fn.rows.rows now;
}
