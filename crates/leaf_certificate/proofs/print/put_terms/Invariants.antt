use Rattle.leaf_certificate.proofs.Words.{◌≡◌, ◌++◌, take, flat_map, spell_term}
use Rattle.leaf_certificate.proofs.print.put_terms.Given as goal

abbrev pub invariant-loop-term : goal.invariant-loop-term
invariant-loop-term l = l.out.items ≡ l.initial.out.items ++ flat_map spell_term (take l.term-index l.terms)
