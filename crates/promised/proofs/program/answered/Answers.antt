use Rattle.std.proofs.Common.{rules}
use Rattle.promised.proofs.program.answered.Goals as goal

pub returns : goal.returns
returns g c = search rules
