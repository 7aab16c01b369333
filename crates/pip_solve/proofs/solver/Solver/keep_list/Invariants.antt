use Rattle.pip_solve.proofs.Words.{length}
use Rattle.std.specs.Prelude.{⊤}
use Rattle.pip_solve.proofs.solver.Solver.keep_list.Given as goal

abbrev pub invariant-loop-component : goal.invariant-loop-component
invariant-loop-component l = ⊤

abbrev pub decreases-loop-component : goal.decreases-loop-component
decreases-loop-component l = length l.items.items
