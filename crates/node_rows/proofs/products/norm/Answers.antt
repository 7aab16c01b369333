use Rattle.node_rows.proofs.Words.{rules, norm_more}
use Rattle.node_rows.proofs.products.norm.Goals as goal

pub loop-entry-preserved : goal.loop-entry-preserved
loop-entry-preserved c = search (rules, norm_more c.args.entries.now c.loop-entry.entry-index (search rules))
