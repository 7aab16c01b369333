use Rattle.tableau.proofs.Words.{rules, arith, row_of}
use Rattle.tableau.proofs.Parted.{sides_made}
use Rattle.tableau.proofs.flat_rows.FlatRows.sides.Goals as goal

pub lent-requires : goal.lent-requires
lent-requires c = c.requires.spare.run (c.requires.spare.begun (omega (arith, c.requires.row)))

pub returns : goal.returns
returns c =
    sides_made c.args.self.now c.args.next.now c.clear.new.self c.args.units.now c.args.r c.lent.result.0 c.lent.result.1.now c.split_at.result.0.now c.split_at-2.result.1.now (row_of c.row.result) _
    c.requires.spare c.lent.ensures c.requires.row c.clear.ensures (search rules) (search rules) c.row.ensures
