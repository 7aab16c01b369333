use Rattle.quast_walk.proofs.Words.{rules}
use Rattle.quast_walk.proofs.Placing.{spread_form}
use Rattle.quast_walk.proofs.spreading.spread.Goals as goal

pub from_entries-requires : goal.from_entries-requires
from_entries-requires c = spread_form c.args.m c.args.n c.args.form.now _ (search rules) (search rules)
