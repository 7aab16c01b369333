use Rattle.node_rows.proofs.Words.{rules, ◌≡◌, ◌-◌, get_or}
use Rattle.node_rows.proofs.Pivoting.{read_at}
use Rattle.node_rows.proofs.node_rows.NodeRows.is_nowhere_below.Goals as goal

pub returns-else-i-n : goal.returns-else-i-n
returns-else-i-n c =
    let f = c.index-as_slice-i.result in
    let at : f ≡ get_or c.self.inside.forms (c.args.i - c.rows-n.result) f = search rules in
    let here = read_at c.self.inside.made c.self.inside.basis c.self.inside.forms c.args.i c.rows-n.result f c.rows-n.ensures c.if-i-n.false (search rules) at in
    search (rules, here)
