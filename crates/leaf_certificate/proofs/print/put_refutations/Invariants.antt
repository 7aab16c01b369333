use Rattle.leaf_certificate.proofs.Words.{◌≡◌, ◌++◌, take, flat_map, spell_refutation}
use Rattle.leaf_certificate.proofs.print.put_refutations.Given as goal

abbrev pub invariant-loop-refutation : goal.invariant-loop-refutation
invariant-loop-refutation l = l.out.items ≡ l.initial.out.items ++ flat_map spell_refutation (take l.refutation-index l.refutations)
