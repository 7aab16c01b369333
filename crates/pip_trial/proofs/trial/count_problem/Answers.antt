use Rattle.quast.specs.Answers.{answer_of}
use Rattle.pip_trial.proofs.Counting.{answer_room}
use Rattle.pip_trial.proofs.trial.count_problem.Goals as goal

pub count_answer-requires : goal.count_answer-requires
count_answer-requires c =
    answer_room c.args.problem.now (answer_of c.in-Ok.answer) c.args.tally.now (rw c.requires.limits at c.in-Ok.ensures.gives) c.requires.room
