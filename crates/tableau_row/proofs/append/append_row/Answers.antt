use Rattle.tableau_row.proofs.Words.{rules, arith, common_steps, numbers_of, row_of}
use Rattle.tableau_row.proofs.Lent.{appends}
use Rattle.tableau_row.proofs.append.append_row.Goals as goal

pub returns : goal.returns
returns c = appends c.args.numbers.now c.append_entries-2.new.numbers (numbers_of (row_of c.args.row.now)) (grind (arith, common_steps)) (search rules)
