use Rattle.node_rows.proofs.Words.{rules}
use Rattle.node_rows.proofs.ReadRows.{combined_row}
use Rattle.node_rows.proofs.reading.push_read.Goals as goal

pub push_row-requires : goal.push_row-requires
push_row-requires c = search (rules, combined_row c.args.rows.now c.args.basis.now c.args.form.now c.requires.read)
