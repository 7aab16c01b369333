use Rattle.refutation_steps.proofs.Words.{◌≤◌}
use Rattle.refutation_steps.proofs.positive_terms.count_negative.Given as goal

abbrev pub invariant-loop-number : goal.invariant-loop-number
invariant-loop-number l = l.count ≤ l.number-index
