use Rattle.lane_rows.proofs.Words.{◌≡◌, ◌+◌, map, pos, replicate, slice_set, count_from}
use Rattle.lane_rows.proofs.starting.push_units.Given as goal

abbrev pub invariant-loop-k : goal.invariant-loop-k
invariant-loop-k l = l.rows.items ≡ map (λ c. slice_set (replicate 8 (pos 0)) (c + 1) (pos 1)) (count_from 0 l.k)
