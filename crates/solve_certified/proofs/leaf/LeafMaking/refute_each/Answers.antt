use Rattle.solve_certified.proofs.Words.{rules, arith, ◌≡◌, ◌∙◌, ap, sym, ◌+◌, ◌++◌, [], ◌∷◌, List, option_copied, err_from_is_err_and, Refutation, LeafProofs, run_fault, case_of}
use Rattle.certificate_check.proofs.Owned.{own_goals}
use Rattle.solve_certified.proofs.MadeGoals.{from_here, leaf_start, leaf_next, leaf_stop, leaf_end}
use Rattle.solve_certified.proofs.leaf.LeafMaking.refute_each.Goals as goal

pub loop-r-init : goal.loop-r-init
loop-r-init c =
    let leaf = c.args.self.now.leaf in
    record {
      before = c.requires.before;
      first = c.requires.first;
      shared = search rules;
      made = leaf_start leaf.problem.now (case_of leaf) c.args.self.now.scope.quotients.now c.new-proofs.result.refutations c.args.work.now (ap (λ (p : LeafProofs). p.refutations) c.new-proofs.ensures);
    }

pub refute_goal-requires-clause-place : goal.refute_goal-requires-clause-place
refute_goal-requires-clause-place c =
    let leaf = c.args.self.now.leaf in
    omega (arith, own_goals leaf.problem.now (case_of leaf) (option_copied leaf.list), c.refutation_count-r-end.ensures, c.loop-r-test.true)

pub returns-in_err-steps : goal.returns-in_err-steps
returns-in_err-steps c =
    let leaf = c.args.self.now.leaf in
    let p = err_from_is_err_and c.from_residual.result c.from_residual.ensures.1 in
    rw (p.1, p.2)
    (leaf_stop leaf.problem.now (case_of leaf) c.args.self.now.scope.quotients.now c.loop-r.proofs.refutations c.loop-r.r c.loop-r.work
    (omega (arith, own_goals leaf.problem.now (case_of leaf) (option_copied leaf.list), c.refutation_count-r-end.ensures, c.loop-r-test.true))
    (run_fault c.in_err-steps.field-0.0) c.refute_goal.new.work c.args.work.now c.loop-r.invariant.made c.in_err-steps.ensures.gives)

pub loop-r-preserved : goal.loop-r-preserved
loop-r-preserved c =
    let leaf = c.args.self.now.leaf in
    let P = leaf.problem.now in
    let L = case_of leaf in
    let ks = c.args.self.now.scope.quotients.now in
    let pushed : c.push.new.self ≡ record c.loop-r.proofs { refutations = c.loop-r.proofs.refutations ++ c.in_ok-steps.steps ∷ [] } = search rules in
    let longer : c.push.new.self.refutations ≡ c.loop-r.proofs.refutations ++ c.in_ok-steps.steps ∷ [] = ap (λ (p : LeafProofs). p.refutations) pushed in
    record {
      before = c.in_ok-steps.ensures.turned;
      first = c.in_ok-steps.ensures.first;
      shared = ap (λ (p : LeafProofs). p.shared) pushed ∙ c.loop-r.invariant.shared;
      made = c.loop-r.invariant.made
          ∙ leaf_next P L ks c.loop-r.proofs.refutations c.loop-r.r c.loop-r.work
          (omega (arith, own_goals P L (option_copied leaf.list), c.refutation_count-r-end.ensures, c.loop-r-test.true))
          c.in_ok-steps.steps c.refute_goal.new.work c.in_ok-steps.ensures.gives
          ∙ ap (λ (xs : List Refutation). from_here P L ks (c.loop-r.r + 1) xs c.refute_goal.new.work) (sym longer);
    }

pub returns : goal.returns
returns c =
    let leaf = c.args.self.now.leaf in
    leaf_end leaf.problem.now (case_of leaf) c.args.self.now.scope.quotients.now c.loop-r.proofs c.loop-r.r c.loop-r.work c.args.work.now
    (omega (arith, own_goals leaf.problem.now (case_of leaf) (option_copied leaf.list), c.refutation_count-r-end.ensures, c.loop-r-test.false))
    c.loop-r.invariant.shared c.loop-r.invariant.made
