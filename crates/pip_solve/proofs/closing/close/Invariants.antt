use Rattle.pip_solve.proofs.Words.{length}
use Rattle.pip_solve.proofs.Popping.{Closes}
use Rattle.pip_solve.proofs.closing.close.Given as goal

abbrev pub invariant-loop-frame : goal.invariant-loop-frame
invariant-loop-frame l = Closes l.fn.tree l.fn.path l.fn.pending l.tree l.path l.pending

abbrev pub decreases-loop-frame : goal.decreases-loop-frame
decreases-loop-frame l = length l.pending.frames
