use Rattle.pip_trial.proofs.Words.{◌+◌, ◌*◌, after_draws, rows_drawn}
use Rattle.pip_trial.proofs.Steps.{DrawingRows}
use Rattle.pip_trial.proofs.draw.draw_rows.Given as goal

abbrev pub invariant-loop : goal.invariant-loop
invariant-loop l =
    DrawingRows l.unknowns l.params l.count l.counter l.generator (after_draws (l.count * (l.unknowns + 1 + l.params)) l.fn.generator) l.rows.items
    (rows_drawn l.unknowns l.params l.count l.fn.generator)
