use Rattle.affine_forms.proofs.Words.{◌≡◌, All, floor_div, Fits}
use Rattle.affine_forms.proofs.Mapped.{mapped}
use Rattle.affine_forms.proofs.division.divide_all.Given as goal

abbrev pub invariant-loop-entry : goal.invariant-loop-entry
invariant-loop-entry l = (l.entries ≡ mapped (λ x. floor_div x l.d) l.entry-index l.fn.entries) × All Fits l.entries
