use Rattle.derivation_steps.proofs.Words.{rules, read_over, total}
use Rattle.derivation_steps.proofs.Steps.{by_one}
use Rattle.derivation_steps.proofs.step.derive_in.Goals as goal

pub returns-then-step-eq1-clause-gives : goal.returns-then-step-eq1-clause-gives
returns-then-step-eq1-clause-gives c = λ at.
    by_one at (read_over c.args.sum.now.width c.args.known.now) (total c.args.sum.now) (total c.add_terms.new.self) c.args.step.now (search rules) (search rules)
