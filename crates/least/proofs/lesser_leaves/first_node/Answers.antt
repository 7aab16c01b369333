use Rattle.least.proofs.Words.{◌∙◌, ap, List, ◌+◌, Component, Leaf}
use Rattle.quast_walk.proofs.Lists.{first_same, first_scoped}
use Rattle.least.proofs.lesser_leaves.first_node.Goals as goal

pub list-requires : goal.list-requires
list-requires c =
    (c.args.places, first_scoped c.args.places (c.args.reading.now.parameters + c.args.reading.now.between) c.args.components.now c.requires.few c.requires.scoped)

pub returns : goal.returns
returns c =
    c.in_ok-made.ensures ∙ ap (λ (cs : List Component). Leaf cs) (first_same c.args.places (c.args.reading.now.parameters + c.args.reading.now.between) c.args.components.now c.requires.few c.requires.scoped)
