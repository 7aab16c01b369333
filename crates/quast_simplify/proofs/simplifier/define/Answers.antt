use Rattle.std.proofs.Common.{◌≡◌, ◌+◌, ◌<◌, true, arith}
use Rattle.pip_model.specs.Forms.{width}
use Rattle.pip_model.specs.Simplified.{is_unused}
use Rattle.quast.specs.Trees.{tree_of}
use Rattle.quast_simplify.proofs.Places.{tree-lacks}
use Rattle.quast_simplify.proofs.simplifier.define.Goals as goal

pub drop_place-requires : goal.drop_place-requires
drop_place-requires c =
    let within : c.width-place.result < width c.args.form + 1 = omega (arith, c.width-place.ensures.value) in
    let unused : is_unused c.width-place.result (tree_of c.args.below.value) ≡ true = cc in
    rw c.into_inner-node.ensures (tree-lacks (width c.args.form + 1) c.width-place.result (tree_of c.args.below.value) within unused c.requires)
