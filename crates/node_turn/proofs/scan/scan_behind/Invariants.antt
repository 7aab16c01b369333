use Rattle.node_turn.proofs.Words.{◌≡◌, drop, UnknownBy, IsKeptContext, AreKnown, scanned}
use Rattle.pip_problem.specs.Counts.{HasCounted}
use Rattle.node_turn.proofs.scan.scan_behind.Given as goal

abbrev pub invariant-loop-i : goal.invariant-loop-i
invariant-loop-i l = record {
  kept : IsKeptContext l.fn.context l.context;
  counted : HasCounted l.fn.work l.work;
  same : scanned l.fn.context.forms l.fn.context.width l.i (UnknownBy l.first.condition) (drop l.i l.rows.rows) l.work
      ≡ scanned l.fn.context.forms l.fn.context.width l.first.behind (UnknownBy l.first.condition) (drop l.first.behind l.rows.rows) l.fn.work;
  known : AreKnown l.fn.context.forms l.fn.context.width l.fn.work.budget l.known;
}
