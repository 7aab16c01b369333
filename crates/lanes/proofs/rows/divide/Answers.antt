use Rattle.lanes.proofs.Words.{rules, arith, to_z-of_z}
use Rattle.lanes.proofs.Writing.{written_step, divided_end, divided_lanes}
use Rattle.lanes.proofs.rows.divide.Goals as goal

pub loop-k-preserved : goal.loop-k-preserved
loop-k-preserved c = written_step _ _ _ _ _ _ c.in-Some.number c.loop-k.invariant (omega arith) (search rules) (omega arith) (search rules)

pub returns-clause-value : goal.returns-clause-value
returns-clause-value c = λ all.
    let l = c.ranges.l in
    let whole = simp to_z-of_z at c.loop-k.invariant in
    divided_end _ _ _ _ (omega arith) whole

pub returns-clause-lanes : goal.returns-clause-lanes
returns-clause-lanes c = λ all.
    let l = c.ranges.l in
    let whole = simp to_z-of_z at c.loop-k.invariant in
    divided_lanes _ _ _ _ c.requires.positive c.requires.lanes (omega arith) whole
