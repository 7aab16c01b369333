use Rattle.tableau_row.proofs.Words.{pos, arith, rules, All-set, IsShort, mapped_step}
use Rattle.tableau_row.proofs.narrow.divide_all_short.Goals as goal

pub loop-entry-preserved : goal.loop-entry-preserved
loop-entry-preserved c = (
  mapped_step _ _ _ c.loop-entry.entry-index _ (pos 0) (omega arith) c.loop-entry.invariant.0 (search rules),
  All-set IsShort _ _ _ (search rules) c.loop-entry.invariant.1,
)
