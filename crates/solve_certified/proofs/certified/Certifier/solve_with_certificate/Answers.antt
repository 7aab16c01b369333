use Rattle.solve_certified.proofs.Told.{is_right, is_reached, is_well_formed, is_certificate}
use Rattle.solve_certified.proofs.certified.Certifier.solve_with_certificate.Goals as goal

pub returns-clause-right : goal.returns-clause-right
returns-clause-right c = is_right c.args.problem.now c.args.limits.now c.certificate_from_start-certified.result c.certificate_from_start-certified.ensures.gives c.certificate_from_start-certified.ensures.problem

pub returns-clause-reached : goal.returns-clause-reached
returns-clause-reached c = is_reached c.args.problem.now c.args.limits.now c.certificate_from_start-certified.result c.certificate_from_start-certified.ensures.gives c.certificate_from_start-certified.ensures.problem

pub returns-clause-well_formed : goal.returns-clause-well_formed
returns-clause-well_formed c = is_well_formed c.args.problem.now c.args.limits.now c.certificate_from_start-certified.result c.certificate_from_start-certified.ensures.gives c.certificate_from_start-certified.ensures.problem c.certificate_from_start-certified.ensures.budget

pub returns-clause-certificate : goal.returns-clause-certificate
returns-clause-certificate c = is_certificate c.args.problem.now c.args.limits.now c.certificate_from_start-certified.result c.certificate_from_start-certified.ensures.gives c.certificate_from_start-certified.ensures.problem c.requires.integer c.certificate_from_start-certified.ensures.budget
