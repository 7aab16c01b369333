use Rattle.certificate_check.proofs.Words.{rules, answer_of}
use Rattle.check_laws.proofs.CheckSound.{accepted-right}
use Rattle.certificate_check.proofs.checking.check_in.Goals as goal

pub returns-in-Ok-clause-right : goal.returns-in-Ok-clause-right
returns-in-Ok-clause-right c =
    λ e. accepted-right c.args.problem.now (answer_of c.args.answer.now) c.args.certificate.now (search rules) (search rules) (search rules) (search rules)
