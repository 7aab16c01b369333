use Rattle.node_rows.proofs.Words.{rules}
use Rattle.node_rows.proofs.Pivoting.{with_pivot}
use Rattle.node_rows.proofs.steps.pivoted_by.Goals as goal

pub returns : goal.returns
returns c = search (rules, with_pivot c.args.rows.now c.args.basis.now c.args.form.now c.requires.read c.args.c c.requires.positive)
