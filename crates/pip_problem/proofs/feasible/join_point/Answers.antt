use Rattle.pip_problem.proofs.Joined.{two_in_front}
use Rattle.pip_problem.proofs.feasible.join_point.Goals as goal

pub returns : goal.returns
returns c = rw (c.copy_from_slice.ensures.after, c.copy_from_slice-2.ensures.after) (two_in_front c.args.point.now c.args.params.now _)
