use Rattle.quast_walk.proofs.Words.{arith}
use Rattle.quast_walk.proofs.Placing.{length-combine}
use Rattle.quast_walk.proofs.differences.difference.Goals as goal

pub returns-clause-length : goal.returns-clause-length
returns-clause-length c = grind (arith, length-combine)
