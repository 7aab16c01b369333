use Rattle.pip_trial.proofs.Words.{rules}
use Rattle.pip_trial.proofs.Draws.{formed_as, problem_draws}
use Rattle.pip_trial.proofs.draw.draw_problem.Goals as goal

pub from_parts-requires : goal.from_parts-requires
from_parts-requires c = formed_as c.args.generator.now _ (search rules)

pub returns-clause-state : goal.returns-clause-state
returns-clause-state c =
    problem_draws c.args.generator.now _ _ _ _ _ c.draw.result c.draw-params.result c.draw-2.result
    c.draw.ensures.state c.draw.ensures.value c.draw-params.ensures.state c.draw-params.ensures.value c.draw-2.ensures.state c.draw-2.ensures.value
    c.draw-integer.ensures.state c.in_ok-rows.ensures.state
