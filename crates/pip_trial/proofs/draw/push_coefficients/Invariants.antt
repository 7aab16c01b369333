use Rattle.pip_trial.proofs.Words.{◌++◌, after_draws, numbers_drawn, ranges}
use Rattle.pip_trial.proofs.Steps.{Drawing}
use Rattle.pip_trial.proofs.draw.push_coefficients.Given as goal

abbrev pub invariant-loop : goal.invariant-loop
invariant-loop l =
    Drawing l.count l.counter l.generator (after_draws l.count l.fn.generator) l.entries.items (l.fn.entries.items ++ numbers_drawn (ranges l.count (9, 4)) l.fn.generator)
