use Rattle.node_rows.proofs.Words.{rules, ◌≡◌, ◌-◌, get_or}
use Rattle.node_rows.proofs.Pivoting.{read_at, read_item, read_wide}
use Rattle.node_rows.proofs.node_rows.NodeRows.constant.Goals as goal

pub returns-else-i-n-clause-value : goal.returns-else-i-n-clause-value
returns-else-i-n-clause-value c =
    let f = c.index-as_slice-i.result in
    let at : f ≡ get_or c.self.inside.forms (c.args.i - c.rows-n.result) f = search rules in
    let here = read_at c.self.inside.made c.self.inside.basis c.self.inside.forms c.args.i c.rows-n.result f c.rows-n.ensures c.if-i-n.false (search rules) at in
    search (rules, here)

pub returns-else-i-n-clause-length : goal.returns-else-i-n-clause-length
returns-else-i-n-clause-length c =
    let f = c.index-as_slice-i.result in
    let at : f ≡ get_or c.self.inside.forms (c.args.i - c.rows-n.result) f = search rules in
    let t = c.self.inside.made in
    let b = c.self.inside.basis in
    let item = read_item t b c.self.inside.forms c.args.i c.rows-n.result f c.self.invariant.0 c.rows-n.ensures c.if-i-n.false (search rules) at in
    search (rules, (read_wide t b f item).constant)
