use Rattle.leaf_certificate.proofs.Words.{◌≡◌, ◌++◌, take, flat_map, spell_leaf}
use Rattle.leaf_certificate.proofs.print.put_leaves.Given as goal

abbrev pub invariant-loop-leaf : goal.invariant-loop-leaf
invariant-loop-leaf l = l.out.items ≡ l.initial.out.items ++ flat_map (spell_leaf l.shares) (take l.leaf-index l.leaves)
