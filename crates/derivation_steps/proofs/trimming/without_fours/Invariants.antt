use Rattle.derivation_steps.proofs.Words.{◌≡◌, ◌≤◌, ◌-◌, pos, length, drop, replicate}
use Rattle.derivation_steps.proofs.trimming.without_fours.Given as goal

abbrev pub invariant-loop-count : goal.invariant-loop-count
invariant-loop-count l = (l.count ≤ length l.numbers) × (drop l.count l.numbers ≡ replicate (length l.numbers - l.count) (pos 0))

abbrev pub decreases-loop-count : goal.decreases-loop-count
decreases-loop-count l = l.count
