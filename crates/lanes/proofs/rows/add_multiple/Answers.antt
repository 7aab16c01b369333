use Rattle.lanes.proofs.Words.{rules, arith, to_z-of_z}
use Rattle.lanes.proofs.Writing.{written_step, added_end, added_lanes}
use Rattle.lanes.proofs.rows.add_multiple.Goals as goal

pub loop-k-preserved : goal.loop-k-preserved
loop-k-preserved c = written_step _ _ _ _ _ _ c.add_product-z.result c.loop-k.invariant (omega arith) (search rules) (omega arith) (search rules)

pub returns-clause-value : goal.returns-clause-value
returns-clause-value c =
    let f = c.ranges.f in
    let kept = simp to_z-of_z at c.loop-k.invariant in
    added_end _ _ _ _ _ c.requires.long (omega arith) kept

pub returns-clause-lanes : goal.returns-clause-lanes
returns-clause-lanes c =
    let f = c.ranges.f in
    let kept = simp to_z-of_z at c.loop-k.invariant in
    added_lanes _ _ _ _ _ c.requires.lanes c.requires.addable (omega arith) kept
