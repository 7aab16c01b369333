use Rattle.short_tableau.proofs.Words.{rules, row_at, row_of}
use Rattle.short_tableau.proofs.Ended.{den_put_in}
use Rattle.short_tableau.proofs.short_table.ShortTableau.den_after.Goals as goal

pub returns-clause-positive : goal.returns-clause-positive
returns-clause-positive c = search (rules, den_put_in c.args.self.now.unknowns (row_of c.args.p.now) c.args.c (row_at c.args.self.now.rows c.args.i))
