use Rattle.node_turn.proofs.Words.{◌≡◌, map, take, All, row_component, IsComponent, IsKeptContext}
use Rattle.node_turn.proofs.turn.components.Given as goal

abbrev pub invariant-loop-i : goal.invariant-loop-i
invariant-loop-i l = record {
  kept : IsKeptContext l.fn.context l.context;
  value : l.made.items ≡ map row_component (take l.i l.rows.rows);
  components : All (IsComponent l.rows.width) l.made.items;
}
