use Rattle.certificate_check.proofs.Words.{◌≡◌, ℤ, take, map, index_of}
use Rattle.certificate_check.proofs.renumbered.renumbered_terms.Given as goal

abbrev pub invariant-loop-term : goal.invariant-loop-term
invariant-loop-term l = l.made ≡ map (λ (t : ℤ × ℤ). (index_of l.by t.0, t.1)) (take l.term-index l.terms)
