use Rattle.solve_certified.proofs.Words.{◌≡◌, ◌+◌, ◌++◌, drop, steps_from}
use Rattle.solve_certified.proofs.quotients.quotient_steps.Given as goal

abbrev pub invariant-loop-j : goal.invariant-loop-j
invariant-loop-j l =
    steps_from l.front l.params l.places l.quotients ≡ l.steps ++ steps_from l.front (l.params + l.j) l.places (drop l.j l.quotients)
