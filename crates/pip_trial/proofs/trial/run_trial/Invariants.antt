use Rattle.pip_trial.proofs.Words.{tally, none_counted}
use Rattle.pip_trial.proofs.Counting.{Counting}
use Rattle.pip_trial.proofs.trial.run_trial.Given as goal

abbrev pub invariant-loop : goal.invariant-loop
invariant-loop l = Counting l.count l.counter l.generator l.tally (tally l.count l.seed none_counted)
