use Rattle.std.proofs.Common.{rules}
use Rattle.promised.proofs.time.in_time.Goals as goal

pub returns : goal.returns
returns g c = search rules
