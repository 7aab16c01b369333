use Rattle.std.proofs.Common.{rules}
use Rattle.promised_steps.proofs.numbers.floor_div.Goals as goal

pub returns : goal.returns
returns c = search rules
