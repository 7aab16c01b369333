use Rattle.node_rows.proofs.Words.{rules, count_map, summed}
use Rattle.node_rows.proofs.reading.coefficients.Goals as goal

pub loop-k-preserved : goal.loop-k-preserved
loop-k-preserved c = search (rules, count_map (summed c.args.rows.now c.args.basis.now c.args.form.now) c.loop-k.k)
