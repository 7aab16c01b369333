use Rattle.leaf_check.proofs.Words.{rules, arith}
use Rattle.leaf_check.proofs.Making.{widened_fits}
use Rattle.leaf_check.proofs.forms.widened_entries.Goals as goal

pub overflow_sub-last : goal.overflow_sub-last
overflow_sub-last c = omega (arith, c.requires.form.some)

pub split_at-requires : goal.split_at-requires
split_at-requires c = omega arith

pub returns-clause-fits : goal.returns-clause-fits
returns-clause-fits c = widened_fits c.args.width c.args.form.now _ (search rules) c.requires.form
