use Rattle.pip_solve.proofs.Paths.{tightened_wide}
use Rattle.pip_solve.proofs.starting.start_rows.Goals as goal

pub restart-requires : goal.restart-requires
restart-requires c = rw (c.deref.ensures.value, c.in_ok-forms.ensures, c.rows-then-not-are_tight.ensures.value, c.requires.unknowns, c.requires.width) (tightened_wide c.args.problem.now c.rows-then-not-are_tight.ensures.problem)
