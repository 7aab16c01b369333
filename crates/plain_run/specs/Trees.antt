-- The tree of a quast.
use Rattle.pip_model.specs.Tree.{Tree}
use Rattle.quast.specs.Trees.{ScopedTree}

abbrev pub tree_in : ScopedTree → Tree
tree_in q = q.tree
