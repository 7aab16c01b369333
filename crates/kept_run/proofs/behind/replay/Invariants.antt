use Rattle.kept_run.proofs.Words.{◌≡◌, length, drop, HasCounted, replayed}
use Rattle.kept_run.proofs.behind.replay.Given as goal

abbrev pub invariant-loop-i : goal.invariant-loop-i
invariant-loop-i l = record {
  unknowns : l.rows.unknowns ≡ l.m.end.unknowns;
  number : length l.rows.rows ≡ length l.fn.rows.rows;
  counted : HasCounted l.fn.work l.work;
  same : replayed (drop l.i l.m.pivots.rows) (drop l.i l.m.columns.items) l.rows.rows l.work ≡ replayed l.m.pivots.rows l.m.columns.items l.fn.rows.rows l.fn.work;
}
