use Rattle.std.proofs.Common.{rules}
use Rattle.promised_steps.proofs.rows.parametric_cut.Goals as goal

pub returns : goal.returns
returns c = record { ok = search rules; err = search rules }
