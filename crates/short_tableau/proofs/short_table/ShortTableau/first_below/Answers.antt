use Rattle.short_tableau.proofs.Words.{◌<◌, subst, IfSome}
use Rattle.short_tableau.proofs.Places.{count_is}
use Rattle.short_tableau.proofs.short_table.ShortTableau.first_below.Goals as goal

pub returns-clause-bound : goal.returns-clause-bound
returns-clause-bound c =
    subst (λ k. IfSome c.first_below_in.result (λ r. r < k)) (count_is c.self.inside.unknowns c.self.inside.count c.self.inside.numbers.items c.args.self.now c.self.view_is) c.first_below_in.ensures.bound
