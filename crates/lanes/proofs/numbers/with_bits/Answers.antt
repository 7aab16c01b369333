use Rattle.lanes.proofs.Words.{or_lt}
use Rattle.lanes.proofs.numbers.with_bits.Goals as goal

pub returns-clause-narrow : goal.returns-clause-narrow
returns-clause-narrow c = or_lt 31 c.args.a c.args.b c.requires.first c.requires.second
