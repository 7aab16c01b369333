use Rattle.node_rows.proofs.Words.{rules, w64, to_z, of_z, over, part, columns_step}
use Rattle.node_rows.proofs.basis.push_columns.Goals as goal

pub loop-k-preserved : goal.loop-k-preserved
loop-k-preserved c = record {
  items = columns_step c.loop-k.columns.items c.push_column.new.columns.items (λ k. over (to_z w64 (of_z w64 c.args.scale)) (part c.args.rows.now.unknowns k) c.args.rows.now.rows) c.loop-k.k c.loop-k.invariant.items (search rules);
  within = search rules;
  most = search rules;
}
