use Rattle.affine_forms.proofs.Words.{pos, arith, rules, All-set, Fits}
use Rattle.affine_forms.proofs.Mapped.{mapped_step}
use Rattle.affine_forms.proofs.entries.negate_all.Goals as goal

pub loop-entry-preserved : goal.loop-entry-preserved
loop-entry-preserved c = (
  mapped_step _ _ _ c.loop-entry.entry-index _ (pos 0) (omega arith) c.loop-entry.invariant.0 (search rules),
  All-set Fits _ _ _ (search rules) c.loop-entry.invariant.1,
)
