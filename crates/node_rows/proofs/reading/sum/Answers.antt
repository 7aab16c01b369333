use Rattle.node_rows.proofs.Words.{rules, basis_inside, basis_column, form_summable}
use Rattle.node_rows.proofs.reading.sum.Goals as goal

pub column-requires : goal.column-requires
column-requires c = search (rules, basis_inside c.requires.read.basis c.args.k c.requires.number)

pub dot-requires : goal.dot-requires
dot-requires c =
    let is = basis_column c.requires.read.basis c.args.k c.requires.number in
    search (rules, is, form_summable c.requires.read.basis c.args.form.now c.requires.read.bound c.args.k c.requires.read.wide c.requires.number)

pub returns : goal.returns
returns c = search (rules, basis_column c.requires.read.basis c.args.k c.requires.number)
