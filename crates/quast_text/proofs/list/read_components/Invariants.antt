use Rattle.quast_text.proofs.Words.{◌≡◌, ◌+◌, ◌<◌, ◌≤◌, length, All, most_components, components, IsComponent, with_front, components_behind}
use Rattle.quast_text.proofs.list.read_components.Given as goal

abbrev pub invariant-loop-read : goal.invariant-loop-read
invariant-loop-read l = record {
  so_far : with_front l.read.items (components l.bytes l.width l.left l.at) ≡ components_behind l.bytes l.width l.fn.first l.place;
  all : All (IsComponent l.width) l.read.items;
  some : 0 < length l.read.items;
  few : length l.read.items + l.left ≤ most_components;
  low : l.place ≤ l.at;
  high : l.at ≤ length l.bytes;
}

abbrev pub decreases-loop-read : goal.decreases-loop-read
decreases-loop-read l = l.left
