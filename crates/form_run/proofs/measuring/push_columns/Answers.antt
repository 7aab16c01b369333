use Rattle.form_run.proofs.Words.{rules, ◌≡◌, ◌++◌, subst, ℤ, over, part, columns_step}
use Rattle.form_run.proofs.measuring.push_columns.Goals as goal

pub loop-k-preserved : goal.loop-k-preserved
loop-k-preserved c =
    let made : c.push_column.new.basis.columns.items ≡ c.loop-k.basis.columns.items ++ over c.loop-k.basis.scale (part c.args.rows.now.unknowns c.loop-k.k) c.args.rows.now.rows = search rules in
    let all : c.push_column.new.basis.columns.items ≡ c.loop-k.basis.columns.items ++ over c.args.basis.now.scale (part c.args.rows.now.unknowns c.loop-k.k) c.args.rows.now.rows
    = subst (λ (L : ℤ). c.push_column.new.basis.columns.items ≡ c.loop-k.basis.columns.items ++ over L (part c.args.rows.now.unknowns c.loop-k.k) c.args.rows.now.rows) c.loop-k.invariant.scale made in
    record {
      items = columns_step c.loop-k.basis.columns.items c.push_column.new.basis.columns.items (λ k. over c.args.basis.now.scale (part c.args.rows.now.unknowns k) c.args.rows.now.rows) c.loop-k.k c.loop-k.invariant.items all;
      within = search rules;
      most = search rules;
      scale = search rules;
      factors = search rules;
    }
