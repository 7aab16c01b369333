use Rattle.tableau.proofs.Words.{rules, ◌≡◌, ◌+◌, max}
use Rattle.tableau.proofs.UnitRun.{run_made}
use Rattle.tableau.proofs.unit_run.fill_run.Goals as goal

pub returns-clause-ok : goal.returns-clause-ok
returns-clause-ok c = run_made c.args.unknowns c.args.width c.in_ok-all.all c.resize.new.self.items (search rules) (search rules)
