use Rattle.kept_run.proofs.Words.{rules, ends_above}
use Rattle.kept_run.proofs.EndingBehind.{ends_below}
use Rattle.kept_run.proofs.asking.ends_at.Goals as goal

pub returns-in_default : goal.returns-in_default
returns-in_default c = ends_above c.args.rows.now.rows (search rules)

pub returns : goal.returns
returns c = ends_below c.args.rows.now.rows c.in-Some.r (search rules)
