use Rattle.short_tableau.proofs.Fitting.{entering_fits}
use Rattle.short_tableau.proofs.short_table.ShortTableau.entering.Goals as goal

pub returns-clause-listed : goal.returns-clause-listed
returns-clause-listed c = entering_fits c.args.self.now.unknowns c.args.r c.args.self.now.rows c.columns.ensures.rows c.requires.row
