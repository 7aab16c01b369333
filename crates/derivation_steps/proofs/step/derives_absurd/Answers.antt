use Rattle.derivation_steps.proofs.Words.{rules, spot_of, read_over, total}
use Rattle.derivation_steps.proofs.Steps.{absurd_made}
use Rattle.derivation_steps.proofs.step.derives_absurd.Goals as goal

pub returns-clause-gives : goal.returns-clause-gives
returns-clause-gives c =
    absurd_made (spot_of c.args.at) c.args.sum.now.width (read_over c.args.sum.now.width c.args.known.now) c.args.step.now (total c.derive_sum.new.sum) c.is_absurd.result (search rules) (search rules)
