use Rattle.short_tableau.proofs.Words.{pos, arith, rules, ◌∙◌, All-set, IsShort, mapped_step}
use Rattle.short_tableau.proofs.Cutting.{ceiled}
use Rattle.short_tableau.proofs.cuts.ceil_mod_all.Goals as goal

pub loop-number-preserved : goal.loop-number-preserved
loop-number-preserved c = (
  mapped_step _ _ _ c.loop-number.number-index _ (pos 0) (omega arith) c.loop-number.invariant.0 (search rules),
  All-set IsShort _ _ _ (search rules) c.loop-number.invariant.1,
)

pub returns-clause-value : goal.returns-clause-value
returns-clause-value c = (search rules) ∙ ceiled c.args.d c.args.entries.now c.loop-number.number-index (search rules)
