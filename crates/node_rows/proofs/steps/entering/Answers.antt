use Rattle.node_rows.proofs.Words.{rules, arith, ◌≡◌, ◌<◌, ◌-◌, length, map, get_or, subst, sym, ◌≤◌, ℤ, List, TableauRows, row_at, entering_listed, IsRead, read, all_rows}
use Rattle.node_rows.proofs.Pivoting.{all_long, row_behind, least, entering_front, listed_front, entering_with, listed_with}
use Rattle.std.specs.Prelude.{IsFalse}
use Rattle.std.proofs.lemmas.Result.{err_from_is_err_and}
use Rattle.pip_model.specs.Listed.{all_fit}
use Rattle.node_rows.proofs.steps.entering.Goals as goal

pub returns-in_ok-column-clause-listed : goal.returns-in_ok-column-clause-listed
returns-in_ok-column-clause-listed c =
    let enough = least c.t.inside.made c.t.inside.basis c.t.inside.forms c.t.invariant.0 (search rules) in
    let long : length (row_at c.t.inside.made.rows c.args.r).coefs ≡ c.t.inside.made.unknowns = search rules in
    search (rules, listed_front c.t.inside.made c.t.inside.basis c.t.inside.forms c.args.r (search rules) (omega (arith, enough, long)))

pub returns-in_ok-column-clause-value : goal.returns-in_ok-column-clause-value
returns-in_ok-column-clause-value c =
    let enough = least c.t.inside.made c.t.inside.basis c.t.inside.forms c.t.invariant.0 (search rules) in
    let long : length (row_at c.t.inside.made.rows c.args.r).coefs ≡ c.t.inside.made.unknowns = search rules in
    search (rules, entering_front c.t.inside.made c.t.inside.basis c.t.inside.forms c.args.r (search rules) (omega (arith, enough, long)))

pub returns-else-r-n-clause-listed : goal.returns-else-r-n-clause-listed
returns-else-r-n-clause-listed c =
    let t = c.t.inside.made in
    let b = c.t.inside.basis in
    let f = c.index-as_slice-r.result in
    let bound : c.args.r < length (all_rows t b c.t.inside.forms).rows = search rules in
    let is = row_behind t.rows (read t b) c.t.inside.forms c.args.r f (search rules) (omega (arith, bound, all_long t b c.t.inside.forms)) in
    let at : f ≡ get_or c.t.inside.forms (c.args.r - c.rows-n.result) f = search rules in
    let read_it : IsRead t b f = subst (IsRead t b) (sym at) (c.t.invariant.0 _ _ (omega (arith, bound, all_long t b c.t.inside.forms, c.rows-n.ensures, c.if-r-n.false))) in
    search (rules, listed_with t b f read_it (map (read t b) c.t.inside.forms) c.args.r (search (rules, is)))

pub returns-else-r-n-clause-value : goal.returns-else-r-n-clause-value
returns-else-r-n-clause-value c =
    let t = c.t.inside.made in
    let b = c.t.inside.basis in
    let f = c.index-as_slice-r.result in
    let bound : c.args.r < length (all_rows t b c.t.inside.forms).rows = search rules in
    let is = row_behind t.rows (read t b) c.t.inside.forms c.args.r f (search rules) (omega (arith, bound, all_long t b c.t.inside.forms)) in
    let at : f ≡ get_or c.t.inside.forms (c.args.r - c.rows-n.result) f = search rules in
    let read_it : IsRead t b f = subst (IsRead t b) (sym at) (c.t.invariant.0 _ _ (omega (arith, bound, all_long t b c.t.inside.forms, c.rows-n.ensures, c.if-r-n.false))) in
    search (rules, entering_with t b f read_it (map (read t b) c.t.inside.forms) c.args.r (search (rules, is)))

pub returns-in_err-column-clause-listed : goal.returns-in_err-column-clause-listed
returns-in_err-column-clause-listed c =
    let enough = least c.t.inside.made c.t.inside.basis c.t.inside.forms c.t.invariant.0 (subst (λ (s : TableauRows). s.unknowns ≤ length s.rows) (sym c.t.view_is) c.requires.rows) in
    let long : length (row_at c.t.inside.made.rows c.args.r).coefs ≡ c.t.inside.made.unknowns = search rules in
    let front = listed_front c.t.inside.made c.t.inside.basis c.t.inside.forms c.args.r (omega (arith, c.if-r-n.true, c.rows-n.ensures)) (omega (arith, enough, long)) in
    let told : IsFalse (all_fit (entering_listed c.t.inside.made.rows c.args.r)) = search rules in
    let all = subst (λ (xs : List ℤ). IsFalse (all_fit xs)) front told in
    let p = err_from_is_err_and c.from_residual.result c.from_residual.ensures.1 in
    rw p.1 (λ _. subst (λ (s : TableauRows). IsFalse (all_fit (entering_listed s.rows c.args.r))) c.t.view_is all)
