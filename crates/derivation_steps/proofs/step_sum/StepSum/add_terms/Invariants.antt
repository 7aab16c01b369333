use Rattle.derivation_steps.proofs.Words.{◌≡◌, drop, Spot, sum_of, read_over, total}
use Rattle.derivation_steps.proofs.step_sum.StepSum.add_terms.Given as goal

abbrev pub invariant-loop-term : goal.invariant-loop-term
invariant-loop-term l =
    ((at : Spot) → sum_of at (read_over l.fn.self.width l.known) (total l.fn.self) l.terms ≡ sum_of at (read_over l.fn.self.width l.known) (total l.self) (drop l.term-index l.terms))
    × (l.self.width ≡ l.fn.self.width)
