use Rattle.std.proofs.Common.{rules}
use Rattle.promised_steps.proofs.laned.turned.Goals as goal

pub returns : goal.returns
returns c = search rules
