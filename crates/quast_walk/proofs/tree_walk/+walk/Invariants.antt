use Rattle.quast_walk.proofs.Words.{◌+◌, ◌*◌, size, tree_of}
use Rattle.quast_walk.proofs.tree_walk.+walk.Given as goal

abbrev pub decreases-walk : goal.decreases-walk
decreases-walk g l = 3 * size (tree_of l.node.now)

abbrev pub decreases-walk_both : goal.decreases-walk_both
decreases-walk_both g l = 3 * (size (tree_of l.split.first.now) + size (tree_of l.split.second.now)) + 2

abbrev pub decreases-walk_where : goal.decreases-walk_where
decreases-walk_where g l = 3 * size (tree_of l.branch.node.now) + 1
