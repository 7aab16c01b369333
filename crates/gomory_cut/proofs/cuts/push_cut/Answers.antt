use Rattle.gomory_cut.proofs.Words.{rules, arith, row_at}
use Rattle.affine_forms.proofs.Bits.{held}
use Rattle.tableau.specs.Views.{row_of}
use Rattle.gomory_cut.proofs.Roundings.{parametric_made, left_row, residue_long, set_long}
use Rattle.gomory_cut.proofs.cuts.push_cut.Goals as goal

pub cut_form-constant-requires-clause-place : goal.cut_form-constant-requires-clause-place
cut_form-constant-requires-clause-place c =
    let long = residue_long (row_at c.args.t.now.rows c.args.row) (row_of c.row-row.result) c.args.t.now.width c.args.residue.items c.row-row.ensures.value c.row-row.ensures.row.constant c.requires.residue in
    omega (arith, long, c.requires.place)

pub push_row-requires : goal.push_row-requires
push_row-requires c =
    let v = row_of c.row-row.result in
    let row = c.row-row.ensures.row in
    let long = set_long (row_at c.args.t.now.rows c.args.row) v c.args.q v.den c.args.residue.items c.deref-2.result.now c.row-row.ensures.value c.requires.residue (search rules) in
    rw (held v.den row.den_fits) (left_row _ _ v c.deref.result.now c.deref-2.result.now row (search rules) long (search rules) (search rules))

pub returns-clause-ok : goal.returns-clause-ok
returns-clause-ok c =
    let made = parametric_made (row_at c.args.t.now.rows c.args.row) (row_of c.row-row.result) c.args.t.now.width c.args.q c.in_ok-coefs.coefs.items c.args.residue.items c.cut_form-constant.result.items
    c.row-row.ensures.value c.row-row.ensures.row.constant c.requires.place c.requires.residue c.requires.free (search rules) (search rules) in
    search (rules, made)
