use Rattle.pip_reader.proofs.Words.{rules, sym, ◌∙◌, drop, length, err_from_is_err_and, problem_at}
use Rattle.pip_reader.proofs.FaultPlaces.{problem_at-fault}
use Rattle.pip_reader.proofs.Found.{told_no_option, none_left, one_left}
use Rattle.pip_reader.proofs.problem.read_problem_in.Goals as goal

pub returns-in-None-clause-none : goal.returns-in-None-clause-none
returns-in-None-clause-none c = none_left c.args.start (drop c.args.start c.args.bytes.now) (sym c.next_open.ensures.value ∙ c.in-None.is)

pub returns-in_ok-problem_at-in-Some-clause-none : goal.returns-in_ok-problem_at-in-Some-clause-none
returns-in_ok-problem_at-in-Some-clause-none c = one_left _ c.args.start c.in-Some.place (drop c.args.start c.args.bytes.now) (sym c.next_open.ensures.value ∙ c.in-Some.is)

pub returns-in_err-problem_at-in-Some-clause-no_option : goal.returns-in_err-problem_at-in-Some-clause-no_option
returns-in_err-problem_at-in-Some-clause-no_option c =
    let p = err_from_is_err_and c.from_residual.result c.from_residual.ensures.1 in
    rw (p.1, p.2) (told_no_option (length c.args.bytes.now) _ (problem_at c.args.bytes.now c.in-Some.place) (problem_at-fault c.args.bytes.now c.in-Some.place (search rules)) c.in_err-problem_at-in-Some.ensures.reads)
