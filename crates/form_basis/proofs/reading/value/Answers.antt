use Rattle.form_basis.proofs.Words.{rules}
use Rattle.form_basis.proofs.ReadForms.{part_constant, value_step}
use Rattle.form_basis.proofs.reading.value.Goals as goal

pub add_product-requires-clause-product : goal.add_product-requires-clause-product
add_product-requires-clause-product c = search (rules, (value_step c.args.places.now c.args.basis.now c.args.form.now c.requires.read).product)

pub add_product-requires-clause-all : goal.add_product-requires-clause-all
add_product-requires-clause-all c =
    let is = part_constant c.args.places.now.unknowns c.args.basis.now.scale c.args.places.now.rows in
    search (rules, is, (value_step c.args.places.now c.args.basis.now c.args.form.now c.requires.read).all)

pub returns : goal.returns
returns c = search (rules, part_constant c.args.places.now.unknowns c.args.basis.now.scale c.args.places.now.rows)
