use Rattle.refuter.proofs.Words.{◌≡◌, drop, length, exchanges}
use Rattle.refuter.proofs.closing.exchange_all.Given as goal

abbrev pub invariant-loop-i : goal.invariant-loop-i
invariant-loop-i l = record {
  rows : l.trace.rows ≡ l.fn.trace.rows;
  columns : length l.trace.columns ≡ length l.fn.trace.columns;
  same : exchanges (drop l.i l.m.rows.items) (drop l.i l.m.columns.items) l.trace ≡ exchanges l.m.rows.items l.m.columns.items l.fn.trace;
}
