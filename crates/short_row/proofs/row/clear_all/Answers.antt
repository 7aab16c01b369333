use Rattle.short_row.proofs.Words.{pos, arith, refl, ◌∙◌, mapped_step}
use Rattle.short_row.proofs.UnitNumbers.{cleared}
use Rattle.short_row.proofs.row.clear_all.Goals as goal

pub loop-number-preserved : goal.loop-number-preserved
loop-number-preserved c = mapped_step (λ x. pos 0) _ _ c.loop-number.number-index _ (pos 0) (omega arith) c.loop-number.invariant refl

pub returns : goal.returns
returns c = c.loop-number.invariant ∙ cleared c.args.numbers.now c.loop-number.number-index (omega arith)
