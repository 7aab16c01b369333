use Rattle.same.proofs.Words.{leaf_tree, spread_tree-none}
use Rattle.same.proofs.searching.SearchingWalker.at_leaf.Goals as goal

pub search_second-requires-clause-leaf : goal.search_second-requires-clause-leaf
search_second-requires-clause-leaf c =
    rw (c.requires.ready.0, spread_tree-none c.args.self.now.reading.parameters (leaf_tree c.args.leaf)) at c.requires.leaf.tree.scoped

pub returns-clause-gives : goal.returns-clause-gives
returns-clause-gives c =
    rw (c.requires.ready.0, spread_tree-none c.args.self.now.reading.parameters (leaf_tree c.args.leaf), ← c.requires.leaf.kind) c.search_second.ensures.gives
