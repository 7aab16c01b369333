use Rattle.quast_text.proofs.Words.{rules}
use Rattle.quast_text.proofs.Lowest.{multiple_positive}
use Rattle.quast_text.proofs.fraction.lcm.Goals as goal

pub returns-clause-positive : goal.returns-clause-positive
returns-clause-positive c = multiple_positive _ c.args.a c.args.b (search rules) c.requires.a c.requires.b
