use Rattle.std.proofs.Common.{◌≡◌}
use Rattle.worked_rows.proofs.trees.deepest.Given as goal

abbrev pub invariant-loop : goal.invariant-loop
invariant-loop l = l.tree.width ≡ 1
