use Rattle.plain_run.proofs.Words.{rules, pos}
use Rattle.plain_run.proofs.Single.{one_entry}
use Rattle.plain_run.proofs.tree.constant_of.Goals as goal

pub returns-clause-value : goal.returns-clause-value
returns-clause-value c = rw (c.wide.ensures) (search (rules, one_entry c.args.constant.now (pos 0) c.requires))
