use Rattle.lane_rows.proofs.Words.{rules, ◌+◌, entry}
use Rattle.lane_rows.proofs.Fractions.{one_divides}
use Rattle.lane_rows.proofs.reading.first_left.Goals as goal

pub returns-then-l-eq1-clause-none : goal.returns-then-l-eq1-clause-none
returns-then-l-eq1-clause-none c = λ j lt. one_divides c.args.l (entry c.args.at (j + 1)) (search rules)
