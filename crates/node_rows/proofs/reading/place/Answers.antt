use Rattle.node_rows.proofs.Words.{rules, part_place, place_step}
use Rattle.node_rows.proofs.reading.place.Goals as goal

pub narrow-own-requires : goal.narrow-own-requires
narrow-own-requires c = search (rules, (place_step c.requires.read.basis c.args.form.now c.requires.read.bound c.args.m c.requires.place).own)

pub add_product-requires-clause-product : goal.add_product-requires-clause-product
add_product-requires-clause-product c = search (rules, (place_step c.requires.read.basis c.args.form.now c.requires.read.bound c.args.m c.requires.place).product)

pub add_product-requires-clause-all : goal.add_product-requires-clause-all
add_product-requires-clause-all c =
    let is = part_place c.args.rows.now.unknowns c.args.m c.args.basis.now.scale c.args.rows.now.rows in
    search (rules, is, (place_step c.requires.read.basis c.args.form.now c.requires.read.bound c.args.m c.requires.place).all)

pub returns : goal.returns
returns c = search (rules, part_place c.args.rows.now.unknowns c.args.m c.args.basis.now.scale c.args.rows.now.rows)
