use Rattle.quast_walk.proofs.Words.{◌∙◌, Leaf}
use Rattle.quast_walk.proofs.Placing.{spread_tree-none}
use Rattle.quast_walk.proofs.nodes.list_again.Goals as goal

pub returns : goal.returns
returns c = c.in_ok-made.ensures ∙ spread_tree-none 0 (Leaf c.args.components.now)
