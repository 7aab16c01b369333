use Rattle.short_tableau.proofs.Words.{subst, All, TableauRows, IsShortReduced}
use Rattle.short_tableau.proofs.short_table.ShortTableau.columns.Goals as goal

pub returns-clause-rows : goal.returns-clause-rows
returns-clause-rows c = subst (λ (t : TableauRows). All (IsShortReduced t.unknowns 0) t.rows) c.self.view_is c.self.invariant.rows
