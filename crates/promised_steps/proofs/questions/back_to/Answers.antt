use Rattle.std.proofs.Common.{rules}
use Rattle.promised_steps.proofs.questions.back_to.Goals as goal

pub returns : goal.returns
returns c = search rules
