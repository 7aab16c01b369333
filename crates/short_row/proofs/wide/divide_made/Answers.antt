use Rattle.short_row.proofs.Words.{pos, arith, rules, All-set, IsShort, mapped_step}
use Rattle.short_row.proofs.wide.divide_made.Goals as goal

pub loop-number-preserved : goal.loop-number-preserved
loop-number-preserved c = (
  mapped_step _ _ _ c.loop-number.number-index _ (pos 0) (omega arith) c.loop-number.invariant.0 (search rules),
  All-set IsShort _ _ _ (search rules) c.loop-number.invariant.1,
)
