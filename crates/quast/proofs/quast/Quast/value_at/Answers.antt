use Rattle.quast.proofs.Words.{◌≡◌, refl, rules, true, Some, None, err_from_is_err_and, all_fit, leaf_of, path_listed}
use Rattle.quast.proofs.Paths.{path-refused, list-refused, all-listed}
use Rattle.quast.proofs.quast.Quast.value_at.Goals as goal

pub returns-in_err-find_leaf-clause-listed : goal.returns-in_err-find_leaf-clause-listed
returns-in_err-find_leaf-clause-listed c =
    let p = err_from_is_err_and c.from_residual.result c.from_residual.ensures.1 in
    let items : c.extend_from_slice.new.self.items ≡ c.args.params.now = search rules in
    rw p.1 (λ over. path-refused c.args.self.now.tree c.args.params.now (rw (c.root.ensures.tree, items) at (c.in_err-find_leaf.ensures.listed refl)))

pub returns-in_err-put_numerators-in-Some-clause-listed : goal.returns-in_err-put_numerators-in-Some-clause-listed
returns-in_err-put_numerators-in-Some-clause-listed c =
    let p = err_from_is_err_and c.from_residual-in_err-put_numerators-in-Some.result c.from_residual-in_err-put_numerators-in-Some.ensures.1 in
    let leaf : leaf_of c.args.self.now.tree c.args.params.now ≡ Some (c.as_slice.result.now, c.as_slice-in-Some.result.now) = search rules in
    rw p.1 (λ over. list-refused c.args.self.now.tree c.args.params.now (rw leaf (c.in_err-put_numerators-in-Some.ensures.listed refl)))

pub returns-in-None-clause-listed : goal.returns-in-None-clause-listed
returns-in-None-clause-listed c =
    let path : all_fit (path_listed c.args.self.now.tree c.args.params.now) ≡ true = search rules in
    let leaf : leaf_of c.args.self.now.tree c.args.params.now ≡ None = search rules in
    all-listed c.args.self.now.tree c.args.params.now path (rw leaf refl)

pub returns-in_ok-put_numerators-in-Some-clause-listed : goal.returns-in_ok-put_numerators-in-Some-clause-listed
returns-in_ok-put_numerators-in-Some-clause-listed c =
    let path : all_fit (path_listed c.args.self.now.tree c.args.params.now) ≡ true = search rules in
    let leaf : leaf_of c.args.self.now.tree c.args.params.now ≡ Some (c.as_slice.result.now, c.as_slice-in-Some.result.now) = search rules in
    all-listed c.args.self.now.tree c.args.params.now path (rw leaf c.in_ok-put_numerators-in-Some.ensures.listed)
