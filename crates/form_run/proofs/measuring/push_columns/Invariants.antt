use Rattle.std.proofs.Common.{All}
use Rattle.form_run.proofs.Words.{◌≡◌, ◌≤◌, unsigned_abs, flat_map, count_from, over, part}
use Rattle.form_run.proofs.measuring.push_columns.Given as goal

abbrev pub invariant-loop-k : goal.invariant-loop-k
invariant-loop-k l = record {
  items : l.basis.columns.items ≡ flat_map (λ k. over l.fn.basis.scale (part l.rows.unknowns k) l.rows.rows) (count_from 0 l.k);
  within : All (λ z. unsigned_abs z ≤ l.basis.most) l.basis.columns.items;
  most : l.fn.basis.most ≤ l.basis.most;
  scale : l.basis.scale ≡ l.fn.basis.scale;
  factors : l.basis.factors.items ≡ l.fn.basis.factors.items;
}
