use Rattle.tableau_row.proofs.Words.{arith, rules, sym, ◌∙◌, to_z-of_z, common_steps, listed_step, listed_refused, listed_end}
use Rattle.tableau_row.proofs.elimination.check_each.Goals as goal

pub returns-in_err-difference : goal.returns-in_err-difference
returns-in_err-difference c = grind (arith, common_steps, to_z-of_z, listed_refused)

pub loop-i-preserved : goal.loop-i-preserved
loop-i-preserved c = sym (listed_step _ _ _ _ c.loop-i.i (omega arith) (omega arith) (search rules)) ∙ c.loop-i.invariant

pub returns : goal.returns
returns c = grind (arith, common_steps, listed_end)
