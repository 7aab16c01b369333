use Rattle.short_row.proofs.Words.{arith, to_z-of_z, common_steps, gcd_step, gcd_one}
use Rattle.short_row.proofs.wide.gcd_with_made.Goals as goal

pub returns-then-found-eq1-clause-value : goal.returns-then-found-eq1-clause-value
returns-then-found-eq1-clause-value c = grind (arith, common_steps, to_z-of_z, gcd_one)

pub loop-number-preserved : goal.loop-number-preserved
loop-number-preserved c = grind (arith, common_steps, to_z-of_z, gcd_step, c.gcd-found.ensures)
