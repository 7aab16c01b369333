use Rattle.solve_certified.proofs.Words.{size, tree_of}
use Rattle.solve_certified.proofs.walk.Walk.+make_node.Given as goal

abbrev pub decreases-make_node : goal.decreases-make_node
decreases-make_node l = size (tree_of l.node.now)
