use Rattle.std.proofs.Common.{rules}
use Rattle.promised_steps.proofs.quotients.keep_quotients.Goals as goal

pub returns : goal.returns
returns c = search rules
