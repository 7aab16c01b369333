use Rattle.plain_run.proofs.Words.{rules}
use Rattle.quast.proofs.Lists.{list-components}
use Rattle.plain_run.proofs.tree.leaf.Goals as goal

pub list-requires-clause-components : goal.list-requires-clause-components
list-requires-clause-components c = list-components 0 c.in_ok-components.field-0.items (search rules) c.in_ok-components.ensures.components
