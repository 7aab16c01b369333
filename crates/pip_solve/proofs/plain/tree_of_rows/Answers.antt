use Rattle.std.proofs.Common.{◌≡◌, map, []}
use Rattle.pip_model.specs.Forms.{widen_to}
use Rattle.pip_model.specs.Rows.{start}
use Rattle.pip_model.specs.Run.{run_from, setting, first_node}
use Rattle.pip_problem.specs.Faults.{run_fault}
use Rattle.node_turn.specs.Turns.{tree_in}
use Rattle.plain_laws.specs.Plain.{plain_setting, node_over}
use Rattle.plain_laws.proofs.Problems.{narrow_forms, problem_forms, problem_run}
use Rattle.pip_solve.proofs.SameParts.{given_by}
use Rattle.pip_solve.proofs.plain.tree_of_rows.Goals as goal

pub tree_shortly-requires-clause-forms : goal.tree_shortly-requires-clause-forms
tree_shortly-requires-clause-forms c =
    rw (c.requires.rows, c.unknowns.ensures.value) (narrow_forms _ _ (problem_forms c.args.problem.now c.requires.none c.unknowns.ensures.problem.rows))

pub returns-clause-gives : goal.returns-clause-gives
returns-clause-gives c =
    let P = c.args.problem.now in
    let same : run_from (plain_setting c.unknowns.result c.integer.result) (node_over [] (start c.unknowns.result 0 (map (widen_to c.unknowns.result) c.args.forms.now))) c.args.work.now ≡ run_from (setting P) (first_node P) c.args.work.now =
    rw (c.requires.rows, c.unknowns.ensures.value, c.integer.ensures) (problem_run P c.args.work.now c.requires.none c.unknowns.ensures.problem.rows) in
    given_by tree_in run_fault c.tree_shortly.result c.args.work.now c.tree_shortly.new.work _ _ same c.tree_shortly.ensures.gives
