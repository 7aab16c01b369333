use Rattle.derivation_steps.proofs.Words.{arith, rules}
use Rattle.derivation_steps.proofs.Spreading.{four_more}
use Rattle.derivation_steps.proofs.trimming.without_fours.Goals as goal

pub loop-count-preserved : goal.loop-count-preserved
loop-count-preserved c = (omega arith, four_more c.args.numbers.now c.loop-count.count (omega arith) (omega arith) (search rules) (search rules))
