use Rattle.node_rows.proofs.Words.{rules, ◌<◌, ◌^◌, length}
use Rattle.node_rows.proofs.ReadRows.{few}
use Rattle.node_rows.proofs.node_rows.NodeRows.rows.Goals as goal

pub overflow_add-result : goal.overflow_add-result
overflow_add-result c =
    let rows : length c.self.inside.made.rows < 2 ^ 64 = search rules in
    search (rules, few c.self.inside.made c.self.inside.basis c.self.inside.forms c.self.invariant.0 (search rules) (search rules) rows)
