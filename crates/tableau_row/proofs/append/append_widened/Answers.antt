use Rattle.tableau_row.proofs.Words.{rules, arith, common_steps, widened, numbers_of, row_of}
use Rattle.tableau_row.proofs.Lent.{appends}
use Rattle.tableau_row.proofs.append.append_widened.Goals as goal

pub returns : goal.returns
returns c = appends c.args.numbers.now c.append_entries-3.new.numbers (numbers_of (widened (row_of c.args.narrow.now))) (grind (arith, common_steps)) (search rules)
