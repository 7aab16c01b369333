use Rattle.restrict.proofs.Words.{tree_of, spread_tree-none}
use Rattle.restrict.proofs.restricting.restrict_tree.Goals as goal

pub returns : goal.returns
returns c = rw (spread_tree-none c.width.result (tree_of c.root.result.now), c.root.ensures.tree) at c.walk.ensures.gives
