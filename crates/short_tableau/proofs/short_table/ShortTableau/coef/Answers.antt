use Rattle.short_tableau.proofs.Words.{arith}
use Rattle.short_tableau.proofs.Places.{count_is}
use Rattle.short_tableau.proofs.short_table.ShortTableau.coef.Goals as goal

pub coef_at-requires-clause-row : goal.coef_at-requires-clause-row
coef_at-requires-clause-row c =
    let e = count_is c.self.inside.unknowns c.self.inside.count c.self.inside.numbers.items c.args.self.now c.self.view_is in
    omega (arith, e, c.requires.row)
