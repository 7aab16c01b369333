use Rattle.certificate_check.proofs.Words.{size, tree_of}
use Rattle.certificate_check.proofs.sharing.Leaves.+share_node.Given as goal

abbrev pub decreases-share_node : goal.decreases-share_node
decreases-share_node l = size (tree_of l.node.now)
