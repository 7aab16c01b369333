use Rattle.short_tableau.proofs.Words.{arith}
use Rattle.short_tableau.proofs.Places.{count_is}
use Rattle.short_tableau.proofs.short_table.ShortTableau.is_below.Goals as goal

pub constant_at-requires-clause-row : goal.constant_at-requires-clause-row
constant_at-requires-clause-row c =
    let e = count_is c.self.inside.unknowns c.self.inside.count c.self.inside.numbers.items c.args.self.now c.self.view_is in
    omega (arith, e, c.requires)
