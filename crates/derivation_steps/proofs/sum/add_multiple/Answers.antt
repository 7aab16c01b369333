use Rattle.derivation_steps.proofs.Words.{arith, rules, sym, ◌∙◌, to_z-of_z, common_steps, Fits, All-set}
use Rattle.derivation_steps.proofs.Sums.{entries_step, multiple_step, entries_passed, multiple_passed, multiple_refused, multiple_fits}
use Rattle.derivation_steps.proofs.sum.add_multiple.Goals as goal

pub returns-in_err-sum-clause-listed : goal.returns-in_err-sum-clause-listed
returns-in_err-sum-clause-listed c = grind (arith, common_steps, to_z-of_z, multiple_refused)

pub loop-i-preserved : goal.loop-i-preserved
loop-i-preserved c = (
  sym (entries_step _ _ _ c.loop-i.i _ (omega arith) (omega arith) (search rules)) ∙ c.loop-i.invariant.0,
  multiple_step _ _ _ c.loop-i.i _ (omega arith) (omega arith) (search rules) ∙ c.loop-i.invariant.1,
  All-set Fits _ _ _ (search rules) c.loop-i.invariant.2,
  search rules,
)

pub returns-clause-listed : goal.returns-clause-listed
returns-clause-listed c = grind (arith, common_steps, to_z-of_z, multiple_fits)

pub loop-i-preserved-then-c-i-eq0 : goal.loop-i-preserved-then-c-i-eq0
loop-i-preserved-then-c-i-eq0 c = (
  sym (entries_passed _ _ _ c.loop-i.i (omega arith) (omega arith) (search rules) (search rules)) ∙ c.loop-i.invariant.0,
  multiple_passed _ _ _ c.loop-i.i (omega arith) (omega arith) (search rules) ∙ c.loop-i.invariant.1,
  search rules,
  search rules,
)
