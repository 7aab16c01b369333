use Rattle.node_rows.proofs.Words.{rules, ◌≡◌, subst, pos, ◌≤ℤ◌, Row, row_at, entry, read, all_rows}
use Rattle.node_rows.proofs.Pivoting.{row_behind}
use Rattle.node_rows.proofs.steps.turned.Goals as goal

pub pivoted_by-requires-clause-positive : goal.pivoted_by-requires-clause-positive
pivoted_by-requires-clause-positive c =
    let t = c.args.rows.now in
    let b = c.args.basis.now in
    let is = row_behind t.rows (read t b) c.args.forms.now c.args.r c.index-forms-r.result (search rules) (search rules) in
    let here : row_at (all_rows t b c.args.forms.now).rows c.args.r ≡ read t b c.index-forms-r.result = search (rules, is) in
    subst (λ (q : Row). pos 1 ≤ℤ entry q.coefs c.args.c) here c.requires.positive

pub returns-else-r-n : goal.returns-else-r-n
returns-else-r-n c =
    let t = c.args.rows.now in
    let b = c.args.basis.now in
    let is = row_behind t.rows (read t b) c.args.forms.now c.args.r c.index-forms-r.result (search rules) (search rules) in
    let here : row_at (all_rows t b c.args.forms.now).rows c.args.r ≡ read t b c.index-forms-r.result = search (rules, is) in
    rw here c.pivoted_by.ensures
