use Rattle.tree_items.proofs.Words.{◌≡◌, ◌++◌, length, drop, All, IsComponent, ratios_of}
use Rattle.tree_items.proofs.value.ratios.Given as goal

abbrev pub invariant-loop-i : goal.invariant-loop-i
invariant-loop-i l = record {
  values : l.made.items ++ ratios_of (drop l.i l.components) (drop l.i l.numerators) ≡ ratios_of l.components l.numerators;
  count : length l.made.items ≡ l.i;
  components : All (IsComponent 0) l.made.items;
}
