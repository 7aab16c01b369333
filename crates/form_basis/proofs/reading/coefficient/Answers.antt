use Rattle.form_basis.proofs.Words.{rules, part_coef}
use Rattle.form_basis.proofs.reading.coefficient.Goals as goal

pub returns : goal.returns
returns c = search (rules, part_coef c.args.places.now.unknowns c.args.k c.args.basis.now.scale c.args.places.now.rows c.requires.column)
