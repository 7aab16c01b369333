use Rattle.short_tableau.proofs.Words.{◌≡◌, ◌∙◌, ap, sym, length, arith, TableauRows}
use Rattle.short_tableau.proofs.Places.{length_rows}
use Rattle.short_tableau.proofs.short_table.ShortTableau.row_numbers.Goals as goal

pub numbers_in-requires-clause-row : goal.numbers_in-requires-clause-row
numbers_in-requires-clause-row c =
    let e : c.self.inside.count ≡ length c.args.self.now.rows = sym (length_rows c.self.inside.unknowns c.self.inside.count c.self.inside.numbers.items) ∙ ap (λ (t : TableauRows). length t.rows) c.self.view_is in
    omega (arith, e, c.requires)
