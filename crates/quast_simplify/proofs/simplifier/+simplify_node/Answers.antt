use Rattle.std.proofs.Common.{ap}
use Rattle.quast.specs.Trees.{tree_of}
use Rattle.quast_simplify.proofs.Places.{scoped-below}
use Rattle.quast_simplify.proofs.simplifier.+simplify_node.Goals as goal

pub define-requires : goal.define-requires
define-requires t c =
    rw (c.simplify_node-in-Define.ensures, c.deref_mut-in-Define.ensures.value) (scoped-below c.requires.0 c.in-Define.form c.in-Define.divisor (tree_of c.in-Define.below.value) (tree_of c.args.node.now) (ap tree_of c.in-Define.ensures.value) c.requires.1)
