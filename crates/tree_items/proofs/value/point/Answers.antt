use Rattle.tree_items.proofs.Words.{arith}
use Rattle.quast.proofs.Lists.{list-components}
use Rattle.tree_items.proofs.value.point.Goals as goal

pub list-requires-clause-components : goal.list-requires-clause-components
list-requires-clause-components c =
    list-components 0 c.in_ok-ratios.field-0.items (omega (arith, c.requires.some, c.in_ok-ratios.ensures.count)) c.in_ok-ratios.ensures.components
