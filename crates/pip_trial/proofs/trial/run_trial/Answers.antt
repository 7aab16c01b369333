use Rattle.pip_trial.proofs.Words.{arith}
use Rattle.pip_trial.proofs.Counting.{counting_more}
use Rattle.pip_trial.proofs.trial.run_trial.Goals as goal

pub loop-preserved : goal.loop-preserved
loop-preserved c =
    counting_more c.args.count c.loop.counter c.loop.generator c.draw_problem.new.generator c.loop.tally c.count_problem.new.tally _ (omega arith)
    c.in_ok-problem.ensures.state (rw c.in_ok-problem.ensures.problem at c.in_ok-count_problem.ensures) c.loop.invariant
