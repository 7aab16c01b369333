use Rattle.refuter.proofs.Words.{◌≡◌, ◌++◌, All, indices, Fits}
use Rattle.refuter.proofs.places.push_indices.Given as goal

abbrev pub invariant-loop-i : goal.invariant-loop-i
invariant-loop-i l = record {
  value : l.list.items ≡ l.fn.list.items ++ indices l.first l.i;
  fits : All Fits l.list.items;
}
