use Rattle.solve_items.proofs.Words.{rules}
use Rattle.quast.specs.Answers.{answer_of}
use Rattle.solve_items.proofs.Solving.{solved_ok}
use Rattle.solve_items.proofs.solve.write_answer.Goals as goal

pub returns-clause-text : goal.returns-clause-text
returns-clause-text c =
    let text = solved_ok c.args.options.now.simplify c.args.options.now.limits c.args.problem.now (answer_of c.in_ok-answer.answer) c.in_ok-answer.ensures.gives in
    search (rules, text)
