use Rattle.node_rows.proofs.Words.{rules}
use Rattle.node_rows.proofs.Pivoting.{front_fits, front_pivot}
use Rattle.node_rows.proofs.steps.pivoted_at.Goals as goal

pub unreachable-requires : goal.unreachable-requires
unreachable-requires c = search (rules, front_fits c.args.rows.now c.args.basis.now c.args.form.now c.requires.read c.args.r c.args.c c.requires.row c.requires.column)

pub returns : goal.returns
returns c = search (rules, front_pivot c.args.rows.now c.args.basis.now c.args.form.now c.requires.read c.args.r c.args.c c.requires.row c.requires.positive)
