use Rattle.lanes.proofs.Words.{rules, arith}
use Rattle.lanes.proofs.Writing.{written_step, covered_end}
use Rattle.lanes.proofs.rows.cover.Goals as goal

pub loop-k-preserved : goal.loop-k-preserved
loop-k-preserved c = written_step _ _ _ _ _ _ c.covering-z.result c.loop-k.invariant (omega arith) (search rules) (omega arith) (search rules, search rules, search rules)

pub returns-clause-own : goal.returns-clause-own
returns-clause-own c = (covered_end _ _ _ _ c.requires.lanes c.requires.others (omega arith) c.loop-k.invariant).0

pub returns-clause-others : goal.returns-clause-others
returns-clause-others c = (covered_end _ _ _ _ c.requires.lanes c.requires.others (omega arith) c.loop-k.invariant).1

pub returns-clause-lanes : goal.returns-clause-lanes
returns-clause-lanes c = (covered_end _ _ _ _ c.requires.lanes c.requires.others (omega arith) c.loop-k.invariant).2
