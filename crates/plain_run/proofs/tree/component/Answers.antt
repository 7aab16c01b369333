use Rattle.plain_run.proofs.Words.{common_steps, rules, arith, row_at}
use Rattle.plain_run.proofs.Single.{component_is}
use Rattle.plain_run.proofs.tree.component.Goals as goal

pub returns-clause-value : goal.returns-clause-value
returns-clause-value c =
    component_is (record { den = c.row-row.result.den; coefs = c.row-row.result.coefs.now; constant = c.row-row.result.constant.now }) (row_at c.args.rows.now.rows c.args.i)
    c.reduced.ensures.value (grind (arith, common_steps, c.wide.ensures)) (search (rules, c.in_ok-constant.ensures, c.constant_of.ensures.value)) c.row-row.ensures.value
