use Rattle.lanes.proofs.Words.{rules, arith}
use Rattle.lanes.proofs.Writing.{written_step, negated_end, negated_lanes}
use Rattle.lanes.proofs.rows.oppose.Goals as goal

pub loop-k-preserved : goal.loop-k-preserved
loop-k-preserved c = written_step _ _ _ _ _ _ c.opposite-z.result c.loop-k.invariant (omega arith) (search rules) (omega arith) (search rules)

pub returns-clause-value : goal.returns-clause-value
returns-clause-value c = negated_end _ _ _ (omega arith) c.loop-k.invariant

pub returns-clause-lanes : goal.returns-clause-lanes
returns-clause-lanes c = negated_lanes _ _ _ c.requires.lanes (omega arith) c.loop-k.invariant
