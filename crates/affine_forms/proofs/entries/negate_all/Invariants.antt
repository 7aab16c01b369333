use Rattle.affine_forms.proofs.Words.{◌≡◌, neg_ℤ, All, Fits}
use Rattle.affine_forms.proofs.Mapped.{mapped}
use Rattle.affine_forms.proofs.entries.negate_all.Given as goal

abbrev pub invariant-loop-entry : goal.invariant-loop-entry
invariant-loop-entry l = (l.entries ≡ mapped neg_ℤ l.entry-index l.fn.entries) × All Fits l.entries
