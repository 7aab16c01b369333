use Rattle.node_rows.proofs.Words.{rules}
use Rattle.node_rows.proofs.ReadRows.{combined_row}
use Rattle.node_rows.proofs.reading.constant.Goals as goal

pub divided-requires : goal.divided-requires
divided-requires c = search (rules, combined_row c.args.rows.now c.args.basis.now c.args.form.now c.requires)
