use Rattle.pip_solve.proofs.Answered.{is_right, is_reached, is_well_formed}
use Rattle.pip_solve.proofs.solver.Solver.solve.Goals as goal

pub returns-clause-right : goal.returns-clause-right
returns-clause-right c = is_right c.args.problem.now c.args.limits.now c.answer_from_start-answer.result c.answer_from_start-answer.ensures.gives c.answer_from_start-answer.ensures.problem

pub returns-clause-reached : goal.returns-clause-reached
returns-clause-reached c = is_reached c.args.problem.now c.args.limits.now c.answer_from_start-answer.result c.answer_from_start-answer.ensures.gives c.answer_from_start-answer.ensures.problem

pub returns-clause-well_formed : goal.returns-clause-well_formed
returns-clause-well_formed c = is_well_formed c.args.problem.now c.args.limits.now c.answer_from_start-answer.result c.answer_from_start-answer.ensures.gives c.answer_from_start-answer.ensures.problem c.answer_from_start-answer.ensures.budget
