use Rattle.refutation_steps.proofs.Words.{◌≡◌, ◌≤◌, ◌++◌, drop, take, length, positive_terms}
use Rattle.refutation_steps.proofs.positive_terms.push_positive.Given as goal

abbrev pub invariant-loop-i : goal.invariant-loop-i
invariant-loop-i l =
    (l.terms ++ positive_terms (drop l.i l.indices) (drop l.i l.multipliers) ≡ l.fn.terms ++ positive_terms l.indices l.multipliers)
    × (take (length l.fn.terms) l.terms ≡ l.fn.terms)
    × (length l.fn.terms ≤ length l.terms)
