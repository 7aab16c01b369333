use Rattle.std.proofs.Common.{rules}
use Rattle.promised_parts.proofs.asking.next_asked.Goals as goal

pub returns : goal.returns
returns g c = search rules
