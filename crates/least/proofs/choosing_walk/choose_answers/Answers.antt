use Rattle.least.proofs.Words.{tree_of, spread_tree-none}
use Rattle.least.proofs.choosing_walk.choose_answers.Goals as goal

pub returns-in-Tree : goal.returns-in-Tree
returns-in-Tree c =
    rw c.in-Tree.is (rw (c.mark.ensures.width, spread_tree-none c.args.context.now.width (tree_of c.root.result.now), c.root.ensures.tree) at c.walk.ensures.gives)
