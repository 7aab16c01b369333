use Rattle.std.specs.Prelude.{◌≡◌}
use Rattle.plain_run.proofs.Words.{map, take, All, row_component, IsComponent}
use Rattle.plain_run.proofs.tree.components.Given as goal

abbrev pub invariant-loop-i : goal.invariant-loop-i
invariant-loop-i l = (l.made.items ≡ map row_component (take l.i l.rows.rows)) × All (IsComponent 0) l.made.items
