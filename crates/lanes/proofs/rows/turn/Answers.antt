use Rattle.lanes.proofs.Words.{rules, arith, to_z-of_z}
use Rattle.lanes.proofs.Writing.{written_step, combined_end, combined_lanes}
use Rattle.lanes.proofs.rows.turn.Goals as goal

pub loop-k-preserved : goal.loop-k-preserved
loop-k-preserved c = written_step _ _ _ _ _ _ c.difference-z.result c.loop-k.invariant (omega arith) (search rules) (omega arith) (search rules)

pub returns-clause-value : goal.returns-clause-value
returns-clause-value c =
    let a = c.ranges.a in
    let b = c.ranges.b in
    let kept = simp to_z-of_z at c.loop-k.invariant in
    combined_end _ _ _ _ _ _ c.requires.long (omega arith) kept

pub returns-clause-lanes : goal.returns-clause-lanes
returns-clause-lanes c =
    let a = c.ranges.a in
    let b = c.ranges.b in
    let kept = simp to_z-of_z at c.loop-k.invariant in
    combined_lanes _ _ _ _ _ _ c.requires.lanes c.requires.turnable (omega arith) kept
