use Rattle.new_parameters.proofs.Words.{◌≡◌, ◌≤◌, length, take, trimmed}
use Rattle.new_parameters.proofs.quotient.trim_zeros.Given as goal

abbrev pub invariant-loop-count : goal.invariant-loop-count
invariant-loop-count l = (l.count ≤ length l.numbers) × (trimmed (take l.count l.numbers) ≡ trimmed l.numbers)

abbrev pub decreases-loop-count : goal.decreases-loop-count
decreases-loop-count l = l.count
