use Rattle.node_rows.proofs.Words.{rules, part_coef}
use Rattle.node_rows.proofs.reading.coefficient.Goals as goal

pub returns : goal.returns
returns c = search (rules, part_coef c.args.rows.now.unknowns c.args.k c.args.basis.now.scale c.args.rows.now.rows c.requires.column)
