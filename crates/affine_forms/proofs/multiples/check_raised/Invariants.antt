use Rattle.affine_forms.proofs.Words.{◌≡◌, take, drop, map, All, all_fit, Fits, raised}
use Rattle.affine_forms.proofs.multiples.check_raised.Given as goal

abbrev pub invariant-loop-entry : goal.invariant-loop-entry
invariant-loop-entry l =
    (all_fit (map (raised l.d) (drop l.entry-index l.entries)) ≡ all_fit (map (raised l.d) l.entries))
    × All (λ x. Fits (raised l.d x)) (take l.entry-index l.entries)
