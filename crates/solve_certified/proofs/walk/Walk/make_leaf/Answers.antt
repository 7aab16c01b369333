use Rattle.solve_certified.proofs.Words.{◌≡◌, ap₂, [], ℕ, ℤ, List, option_copied, err_from_is_err_and, LeafCase, run_fault}
use Rattle.solve_certified.proofs.LeafBelow.{here, leaf_is_done, leaf_is_refused}
use Rattle.solve_certified.proofs.walk.Walk.make_leaf.Goals as goal

pub returns-in_err-proofs-clause-gives : goal.returns-in_err-proofs-clause-gives
returns-in_err-proofs-clause-gives c =
    let P = c.args.self.now.problem.now in
    let q = c.args.trail.now in
    let list = option_copied c.args.list in
    let p = err_from_is_err_and c.from_residual.result c.from_residual.ensures.1 in
    let L : LeafCase = record { scope = c.scope.result; path = c.forms-2.result.now; listed = []; list = list } in
    let same : L ≡ here P q c.args.making.now.certificate c.args.work.now list = ap₂ (λ (s : ℕ) (xs : List (List ℤ)). let M : LeafCase = record { scope = s; path = xs; listed = []; list = list } in M) c.scope.ensures c.forms-2.ensures.value in
    rw (p.1, p.2) (leaf_is_refused P q c.args.making.now.certificate c.args.work.now list L c.quotients.result.now (run_fault c.in_err-proofs.field-0.0) c.refute_all.new.work same c.quotients.ensures c.in_err-proofs.ensures)

pub returns-clause-gives : goal.returns-clause-gives
returns-clause-gives c =
    let P = c.args.self.now.problem.now in
    let q = c.args.trail.now in
    let list = option_copied c.args.list in
    let L : LeafCase = record { scope = c.scope.result; path = c.forms-2.result.now; listed = []; list = list } in
    let same : L ≡ here P q c.args.making.now.certificate c.args.work.now list = ap₂ (λ (s : ℕ) (xs : List (List ℤ)). let M : LeafCase = record { scope = s; path = xs; listed = []; list = list } in M) c.scope.ensures c.forms-2.ensures.value in
    leaf_is_done P q c.args.making.now.certificate c.args.work.now list L c.quotients.result.now c.in_ok-proofs.proofs c.push.new.self c.refute_all.new.work same c.quotients.ensures c.in_ok-push.ensures.ok c.in_ok-proofs.ensures
