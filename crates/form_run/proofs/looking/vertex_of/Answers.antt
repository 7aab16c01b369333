use Rattle.form_run.proofs.Words.{rules, arith}
use Rattle.form_laws.proofs.Columns.{basis_inside, basis_column, length_over}
use Rattle.form_laws.specs.ByForm.{place}
use Rattle.form_basis.proofs.ReadForms.{part_constant}
use Rattle.form_run.proofs.looking.vertex_of.Goals as goal

pub column-requires : goal.column-requires
column-requires c = search (rules, basis_inside c.requires c.args.places.now.unknowns (omega arith))

pub returns-clause-value : goal.returns-clause-value
returns-clause-value c = search (rules, basis_column c.requires c.args.places.now.unknowns (omega arith), part_constant c.args.places.now.unknowns c.args.basis.now.scale c.args.places.now.rows)

pub returns-clause-length : goal.returns-clause-length
returns-clause-length c = search (rules, basis_column c.requires c.args.places.now.unknowns (omega arith), part_constant c.args.places.now.unknowns c.args.basis.now.scale c.args.places.now.rows, length_over c.args.basis.now.scale (place 0) c.args.places.now.rows, c.requires.size)
