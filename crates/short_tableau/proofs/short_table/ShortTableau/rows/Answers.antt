use Rattle.short_tableau.proofs.Words.{◌∙◌, ap, sym, length, TableauRows}
use Rattle.short_tableau.proofs.Places.{length_rows}
use Rattle.short_tableau.proofs.short_table.ShortTableau.rows.Goals as goal

pub returns : goal.returns
returns c = sym (length_rows c.self.inside.unknowns c.self.inside.count c.self.inside.numbers.items) ∙ ap (λ (t : TableauRows). length t.rows) c.self.view_is
