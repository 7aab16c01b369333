use Rattle.std.proofs.Common.{All}
use Rattle.form_run.proofs.Words.{◌≡◌, ◌≤◌, ◌++◌, take, unsigned_abs, over, part}
use Rattle.form_run.proofs.measuring.push_column.Given as goal

abbrev pub invariant-loop-j : goal.invariant-loop-j
invariant-loop-j l = record {
  items : l.basis.columns.items ≡ l.fn.basis.columns.items ++ over l.fn.basis.scale (part l.rows.unknowns l.k) (take l.j l.rows.rows);
  within : All (λ z. unsigned_abs z ≤ l.basis.most) l.basis.columns.items;
  most : l.fn.basis.most ≤ l.basis.most;
  scale : l.basis.scale ≡ l.fn.basis.scale;
  factors : l.basis.factors.items ≡ l.fn.basis.factors.items;
}
