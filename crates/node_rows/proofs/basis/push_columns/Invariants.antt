use Rattle.node_rows.proofs.Words.{◌≡◌, ◌≤◌, All, unsigned_abs, count_from, over, part}
use Rattle.std.specs.Prelude.{flat_map}
use Rattle.node_rows.proofs.basis.push_columns.Given as goal

abbrev pub invariant-loop-k : goal.invariant-loop-k
invariant-loop-k l = record {
  items : l.columns.items ≡ flat_map (λ k. over l.scale (part l.rows.unknowns k) l.rows.rows) (count_from 0 l.k);
  within : All (λ z. unsigned_abs z ≤ l.greatest) l.columns.items;
  most : l.most ≤ l.greatest;
}
