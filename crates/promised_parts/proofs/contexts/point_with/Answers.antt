use Rattle.std.proofs.Common.{rules}
use Rattle.promised_parts.proofs.contexts.point_with.Goals as goal

pub returns : goal.returns
returns c = search rules
