use Rattle.pip_solve.proofs.Words.{◌≡◌, ap, [], Waiting}
use Rattle.pip_solve.proofs.Paths.{starts_running}
use Rattle.pip_solve.proofs.solver.Solver.tree_by_nodes.Goals as goal

pub run-requires-clause-running : goal.run-requires-clause-running
run-requires-clause-running c =
    let empty : c.restart.new.self ≡ record { frames = []; most = c.args.levels } = c.in_ok-restart.ensures.ok in
    starts_running c.args.problem.now c.start_rows.new.rows c.args.self.now.path c.restart.new.self c.in_ok-start_rows.ensures.problem c.in_ok-start_rows.ensures.rows c.requires.path (ap (λ (p : Waiting). p.frames) empty) (rw empty c.requires.few)

pub run-requires-clause-room : goal.run-requires-clause-room
run-requires-clause-room c = rw c.in_ok-restart.ensures.ok c.requires.room

pub run-requires-clause-budget : goal.run-requires-clause-budget
run-requires-clause-budget c = rw c.in_ok-restart.ensures.ok c.requires.nesting
