use Rattle.pip_trial.proofs.Words.{size, tree_of}
use Rattle.pip_trial.proofs.tally.Tally.+count_node.Given as goal

abbrev pub decreases-count_node : goal.decreases-count_node
decreases-count_node l = size (tree_of l.node.now)
