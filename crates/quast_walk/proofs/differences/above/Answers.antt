use Rattle.sign_split.proofs.Opposites.{negate_twice}
use Rattle.quast_walk.proofs.differences.above.Goals as goal

pub returns-clause-value : goal.returns-clause-value
returns-clause-value c = rw (c.in_ok-made.ensures.value, c.in_ok-opposite.ensures.value, negate_twice c.args.form.now)
