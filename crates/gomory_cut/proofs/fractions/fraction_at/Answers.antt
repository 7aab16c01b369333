use Rattle.gomory_cut.proofs.Words.{rules, row_at}
use Rattle.gomory_cut.proofs.Wholes.{whole_one}
use Rattle.gomory_cut.proofs.fractions.fraction_at.Goals as goal

pub returns-then-row-eq1-clause-whole : goal.returns-then-row-eq1-clause-whole
returns-then-row-eq1-clause-whole c =
    whole_one (row_at c.args.t.now.rows c.args.i).den (row_at c.args.t.now.rows c.args.i).constant (search rules)
