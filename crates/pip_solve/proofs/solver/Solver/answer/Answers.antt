use Rattle.pip_solve.proofs.Words.{rules, arith, ◌≡◌, true, common_steps, Done, run_fault, has_point}
use Rattle.pip_solve.proofs.Begun.{answer-made, answer-refused}
use Rattle.pip_solve.proofs.solver.Solver.answer.Goals as goal

pub returns-in_err-tree-clause-gives : goal.returns-in_err-tree-clause-gives
returns-in_err-tree-clause-gives c =
    let yes : c.in_ok-has_point.field-0 ≡ true = search rules in
    let given : has_point c.args.problem.now.params c.args.problem.now.context c.args.work.now ≡ Done true c.has_point.new.work
    = rw (yes, c.in_ok-start_path.ensures.first.width, c.in_ok-start_path.ensures.first.forms) at c.in_ok-has_point.ensures.gives.agrees in
    let fault = answer-refused c.args.problem.now c.args.work.now c.has_point.new.work given (run_fault c.in_err-tree.field-0.0) c.tree.new.work c.in_err-tree.ensures.gives in
    grind (arith, common_steps, fault)

pub returns-clause-gives : goal.returns-clause-gives
returns-clause-gives c =
    let yes : c.in_ok-has_point.field-0 ≡ true = search rules in
    let given : has_point c.args.problem.now.params c.args.problem.now.context c.args.work.now ≡ Done true c.has_point.new.work
    = rw (yes, c.in_ok-start_path.ensures.first.width, c.in_ok-start_path.ensures.first.forms) at c.in_ok-has_point.ensures.gives.agrees in
    answer-made c.args.problem.now c.args.work.now c.has_point.new.work given c.in_ok-tree.tree.tree c.tree.new.work c.in_ok-tree.ensures.gives
