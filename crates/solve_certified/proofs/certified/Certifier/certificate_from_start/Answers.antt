use Rattle.solve_certified.proofs.Words.{answer_of}
use Rattle.certificate_parts.proofs.Fitting.{all_from_vector}
use Rattle.solve_certified.proofs.Whole.{answer_whole, point_numbers}
use Rattle.solve_certified.proofs.certified.Certifier.certificate_from_start.Goals as goal

pub certificate_of-requires-clause-whole : goal.certificate_of-requires-clause-whole
certificate_of-requires-clause-whole c =
    answer_whole c.args.problem.now c.unknowns.ensures.problem c.requires.integer c.in_ok-point.point (answer_of c.in_ok-answer.answer) c.start-work.result c.context_point.new.work c.answer_from.new.work c.in_ok-point.ensures.gives.agrees c.in_ok-answer.ensures.gives

pub certificate_of-requires-clause-fits : goal.certificate_of-requires-clause-fits
certificate_of-requires-clause-fits c =
    all_from_vector c.in_ok-point.point (point_numbers c.args.problem.now c.unknowns.ensures.problem c.in_ok-point.point c.start-work.result c.context_point.new.work c.in_ok-point.ensures.gives.agrees)
