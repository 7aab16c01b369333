use Rattle.least.proofs.Words.{leaf_tree, spread_tree-none}
use Rattle.least.proofs.choosing_walk.ChoosingWalker.at_leaf.Goals as goal

pub choose_second-requires-clause-leaf : goal.choose_second-requires-clause-leaf
choose_second-requires-clause-leaf c =
    rw (c.requires.ready.0, spread_tree-none c.args.self.now.reading.parameters (leaf_tree c.args.leaf)) at c.requires.leaf.tree.scoped

pub returns-clause-gives : goal.returns-clause-gives
returns-clause-gives c =
    rw (c.requires.ready.0, spread_tree-none c.args.self.now.reading.parameters (leaf_tree c.args.leaf)) c.choose_second.ensures.gives
