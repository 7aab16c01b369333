use Rattle.form_basis.proofs.Words.{rules}
use Rattle.form_basis.proofs.ReadForms.{inside, column_is, read_summable}
use Rattle.form_basis.proofs.reading.sum.Goals as goal

pub column-requires : goal.column-requires
column-requires c = search (rules, inside c.args.places.now c.args.basis.now c.args.form.now c.args.k c.requires.read c.requires.number)

pub dot-requires : goal.dot-requires
dot-requires c =
    let is = column_is c.args.places.now c.args.basis.now c.args.form.now c.args.k c.requires.read c.requires.number in
    search (rules, is, read_summable c.args.places.now c.args.basis.now c.args.form.now c.requires.read c.args.k c.requires.number)

pub returns : goal.returns
returns c = search (rules, column_is c.args.places.now c.args.basis.now c.args.form.now c.args.k c.requires.read c.requires.number)
