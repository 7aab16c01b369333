use Rattle.pip_model.proofs.Simplifier.{simplified-nesting}
use Rattle.pip_model.proofs.SimplerTrees.{simplified-simpler}
use Rattle.quast_simplify.proofs.Places.{simplified-quast}
use Rattle.quast_simplify.proofs.simplifier.simplify.Goals as goal

pub from_node-requires : goal.from_node-requires
from_node-requires c =
    rw (c.width-width.ensures, c.simplify_node.ensures, c.into_node-node.ensures.tree) (simplified-quast c.args.tree c.into_node-node.ensures.quast)

pub returns-clause-simpler : goal.returns-clause-simpler
returns-clause-simpler c =
    rw (c.from_node.ensures, c.simplify_node.ensures, c.into_node-node.ensures.tree) (simplified-simpler c.args.tree.width c.args.tree.tree c.into_node-node.ensures.quast.well_formed)

pub returns-clause-nested : goal.returns-clause-nested
returns-clause-nested c =
    rw (c.from_node.ensures, c.simplify_node.ensures, c.into_node-node.ensures.tree) (simplified-nesting c.args.tree.tree)
