use Rattle.solve_certified.proofs.Words.{rules, ◌≡◌, ◌∙◌, ap, ℤ, List, ◌++◌, slice_index_or, err_from_is_err_and, all_fit, scope_forms, run_fault, case_of, own_premises, nothing, unknowns_at}
use Rattle.std.proofs.Common.{IsTrue}
use Rattle.solve_certified.proofs.GoalsBefore.{own_next}
use Rattle.solve_certified.proofs.Refuting.{goal_same, goal_fault}
use Rattle.refuter.proofs.KeptFirst.{first-same}
use Rattle.solve_certified.proofs.leaf.LeafMaking.refute_goal.Goals as goal

pub returns-in_err-steps-clause-gives : goal.returns-in_err-steps-clause-gives
returns-in_err-steps-clause-gives c =
    let leaf = c.args.self.now.leaf in
    let P = leaf.problem.now in
    let o = slice_index_or (own_premises leaf) c.args.r nothing in
    let p = err_from_is_err_and c.from_residual-in_err-steps.result c.from_residual-in_err-steps.ensures.1 in
    let fits : IsTrue (all_fit o.listed) = search rules in
    let known : c.turn_to.new.known.forms ≡ scope_forms P (case_of leaf) ++ o.known = c.in_ok-same.ensures.turned.behind.forms ∙ ap (λ (own : List (List ℤ)). scope_forms P (case_of leaf) ++ own) (own_next c.args.self.now c.args.r) in
    rw (p.1, p.2)
    (goal_fault P leaf.scope leaf.path.now _ c.args.self.now.scope c.requires.making.scope (unknowns_at P _ c.args.r) o c.args.work.now c.unknowns.result c.turn_to.new.known.forms fits c.unknowns.ensures known
    (run_fault c.in_err-steps.field-0.0) c.refute.new.work c.in_err-steps.ensures.gives)

pub returns-clause-gives : goal.returns-clause-gives
returns-clause-gives c =
    let leaf = c.args.self.now.leaf in
    let P = leaf.problem.now in
    let o = slice_index_or (own_premises leaf) c.args.r nothing in
    let fits : IsTrue (all_fit o.listed) = search rules in
    let known : c.turn_to.new.known.forms ≡ scope_forms P (case_of leaf) ++ o.known = c.in_ok-same.ensures.turned.behind.forms ∙ ap (λ (own : List (List ℤ)). scope_forms P (case_of leaf) ++ own) (own_next c.args.self.now c.args.r) in
    goal_same P leaf.scope leaf.path.now _ c.args.self.now.scope c.requires.making.scope (unknowns_at P _ c.args.r) o c.args.work.now c.unknowns.result c.turn_to.new.known.forms fits c.unknowns.ensures known
    ∙ c.in_ok-steps.ensures.gives

pub refute-requires-clause-first : goal.refute-requires-clause-first
refute-requires-clause-first c =
    c.keep_within.ensures c.turn_to.new.known.forms
    (rw c.keep.ensures (first-same c.args.refuter.now c.args.known.now.forms c.turn_to.new.known.forms c.in_ok-same.same c.requires.first c.in_ok-same.ensures.stay))
