use Rattle.node_rows.proofs.Words.{rules, count_map, placed}
use Rattle.node_rows.proofs.reading.places.Goals as goal

pub loop-m-preserved : goal.loop-m-preserved
loop-m-preserved c = search (rules, count_map (placed c.args.rows.now c.args.basis.now c.args.form.now) c.loop-m.m)
