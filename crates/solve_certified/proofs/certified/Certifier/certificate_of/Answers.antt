use Rattle.solve_certified.proofs.Words.{ap, answer_of}
use Rattle.solve_certified.proofs.certified.Certifier.certificate_of.Goals as goal

pub returns-in-Void : goal.returns-in-Void
returns-in-Void c = rw (ap answer_of c.in-Void.is) (c.certificate_of_void.ensures c.args.point.now)
