use Rattle.lane_rows.proofs.Words.{rules, ◌+◌, ℤ, List, pos, replicate, slice_set, count_map}
use Rattle.lane_rows.proofs.starting.push_units.Goals as goal

pub loop-k-preserved : goal.loop-k-preserved
loop-k-preserved c = search (rules, c.loop-k.invariant, count_map {X = List ℤ} (λ c. slice_set (replicate 8 (pos 0)) (c + 1) (pos 1)) c.loop-k.k)
