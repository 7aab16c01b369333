use Rattle.quast_text.proofs.Words.{◌∙◌, ap, ScopedTree}
use Rattle.quast.proofs.Lists.{list-components, list-width}
use Rattle.quast_text.proofs.list.read_list.Goals as goal

pub list-requires-clause-components : goal.list-requires-clause-components
list-requires-clause-components c = list-components c.args.width c.in_ok-components.components.items c.in_ok-components.ensures.some c.in_ok-components.ensures.components

pub returns-clause-width : goal.returns-clause-width
returns-clause-width c = ap (λ (q : ScopedTree). q.width) c.list.ensures ∙ list-width c.args.width c.in_ok-components.components.items c.in_ok-components.ensures.some c.in_ok-components.ensures.components
