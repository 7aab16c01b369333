use Rattle.node_rows.proofs.Words.{◌≡◌, ◌≤◌, ◌++◌, take, All, unsigned_abs, over, part}
use Rattle.node_rows.proofs.basis.push_column.Given as goal

abbrev pub invariant-loop-j : goal.invariant-loop-j
invariant-loop-j l = record {
  items : l.columns.items ≡ l.fn.columns.items ++ over l.scale (part l.rows.unknowns l.k) (take l.j l.rows.rows);
  within : All (λ z. unsigned_abs z ≤ l.greatest) l.columns.items;
  most : l.most ≤ l.greatest;
}
