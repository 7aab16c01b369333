use Rattle.refutation_steps.proofs.Words.{◌≡◌, ◌++◌, drop, negate, positive_terms}
use Rattle.refutation_steps.proofs.positive_terms.push_opposites.Given as goal

abbrev pub invariant-loop-i : goal.invariant-loop-i
invariant-loop-i l =
    l.terms ++ positive_terms (drop l.i l.indices) (drop l.i (negate l.numbers)) ≡ l.fn.terms ++ positive_terms l.indices (negate l.numbers)
