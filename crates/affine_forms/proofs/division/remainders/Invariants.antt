use Rattle.affine_forms.proofs.Words.{◌≡◌, take, map, All, floor_mod, Fits}
use Rattle.affine_forms.proofs.division.remainders.Given as goal

abbrev pub invariant-loop-entry : goal.invariant-loop-entry
invariant-loop-entry l = (l.found.items ≡ map (λ x. floor_mod x l.d) (take l.entry-index l.entries)) × All Fits l.found.items
