use Rattle.node_turn.proofs.Words.{◌≡◌, drop, AllPlus, IsKeptContext, AreKnown, scanned}
use Rattle.pip_problem.specs.Counts.{HasCounted}
use Rattle.node_turn.proofs.scan.scan.Given as goal

abbrev pub invariant-loop-i : goal.invariant-loop-i
invariant-loop-i l = record {
  kept : IsKeptContext l.fn.context l.context;
  counted : HasCounted l.fn.work l.work;
  same : scanned l.fn.context.forms l.fn.context.width l.i AllPlus (drop l.i l.rows.rows) l.work ≡ scanned l.fn.context.forms l.fn.context.width 0 AllPlus l.rows.rows l.fn.work;
  known : AreKnown l.fn.context.forms l.fn.context.width l.fn.work.budget l.known;
}
