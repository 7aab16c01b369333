use Rattle.certificate_check.proofs.Words.{◌≡◌, drop, same_terms}
use Rattle.certificate_check.proofs.common.are_same_terms.Given as goal

abbrev pub invariant-loop-i : goal.invariant-loop-i
invariant-loop-i l = same_terms (drop l.i l.terms) (drop l.i l.other) ≡ same_terms l.terms l.other
