use Rattle.affine_forms.proofs.Words.{◌≡◌, All, Fits, raised}
use Rattle.affine_forms.proofs.Mapped.{mapped}
use Rattle.affine_forms.proofs.multiples.raise_all.Given as goal

abbrev pub invariant-loop-entry : goal.invariant-loop-entry
invariant-loop-entry l = (l.entries ≡ mapped (raised l.d) l.entry-index l.fn.entries) × All Fits l.entries
