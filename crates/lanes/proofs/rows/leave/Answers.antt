use Rattle.lanes.proofs.Words.{rules, arith, to_z-of_z}
use Rattle.lanes.proofs.Writing.{written_step, left_end, left_lanes}
use Rattle.lanes.proofs.rows.leave.Goals as goal

pub loop-k-preserved : goal.loop-k-preserved
loop-k-preserved c = written_step _ _ _ _ _ _ c.left-z.result c.loop-k.invariant (omega arith) (search rules) (omega arith) (search rules, search rules)

pub returns-clause-value : goal.returns-clause-value
returns-clause-value c = λ k lt.
    let l = c.ranges.l in
    let kept = simp to_z-of_z at c.loop-k.invariant in
    left_end _ _ _ _ k c.requires.lanes (omega arith) kept lt

pub returns-clause-lanes : goal.returns-clause-lanes
returns-clause-lanes c =
    let l = c.ranges.l in
    let kept = simp to_z-of_z at c.loop-k.invariant in
    left_lanes _ _ _ _ c.requires.lanes (omega arith) kept
