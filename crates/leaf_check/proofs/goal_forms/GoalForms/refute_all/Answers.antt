use Rattle.leaf_check.proofs.Words.{◌≡◌, ◌∙◌, refl, sym, rules, arith, ◌+◌, get_or, option_copied, err_from_is_err_and, leaf_premises, fault_of, case_of, append-nil}
use Rattle.leaf_check.proofs.Refuted.{bare, refutations_next, refutations_stop}
use Rattle.leaf_check.proofs.goal_forms.GoalForms.refute_all.Goals as goal

pub loop-r-init : goal.loop-r-init
loop-r-init c = (c.requires.over, record { forms = sym (append-nil c.args.self.now.kept.forms) }, refl)

pub returns-in_err-refute : goal.returns-in_err-refute
returns-in_err-refute c =
    let p = err_from_is_err_and c.from_residual.result c.from_residual.ensures.1 in
    let leaf = c.args.leaf.now in
    let own = leaf_premises leaf.problem.now (case_of leaf) (option_copied leaf.list) in
    let front = c.args.self.now.kept.forms in
    let same : c.as_slice.result.now ≡ get_or c.args.refutations.now c.loop-r.r c.index-refutations-r.result = search rules in
    rw (p.1, p.2)
    (refutations_stop leaf.number c.loop-r.r (leaf.scope + leaf.problem.now.unknowns) (bare front) own c.args.refutations.now c.index-refutations-r.result (omega (arith, c.requires.count)) (omega arith)
    (fault_of c.in_err-refute.field-0.0) c.loop-r.invariant.2 (rw same at (c.in_err-refute.ensures.gives front c.loop-r.invariant.1)))

pub loop-r-preserved : goal.loop-r-preserved
loop-r-preserved c =
    let leaf = c.args.leaf.now in
    let own = leaf_premises leaf.problem.now (case_of leaf) (option_copied leaf.list) in
    let front = c.args.self.now.kept.forms in
    let same : c.as_slice.result.now ≡ get_or c.args.refutations.now c.loop-r.r c.index-refutations-r.result = search rules in (
      c.in_ok-refute.ensures.over,
      c.in_ok-refute.ensures.behind front c.loop-r.invariant.1,
      c.loop-r.invariant.2
          ∙ refutations_next leaf.number c.loop-r.r (leaf.scope + leaf.problem.now.unknowns) (bare front) own c.args.refutations.now c.index-refutations-r.result (omega (arith, c.requires.count)) (omega arith)
          (rw same at (c.in_ok-refute.ensures.gives front c.loop-r.invariant.1)),
    )
