use Rattle.lanes.proofs.Words.{arith}
use Rattle.lanes.proofs.Sums.{nowhere_below}
use Rattle.lanes.proofs.rows.place_below.Goals as goal

pub returns-clause-none : goal.returns-clause-none
returns-clause-none c = nowhere_below c.args.row.now c.loop-k.k (omega arith) c.loop-k.invariant
