use Rattle.node_rows.proofs.Words.{rules, arith, ◌≡◌, ◌∙◌, ap, subst, sym, ℕ, pos, ◌≤ℤ◌, length, Row, pivot, entry, TableauRows, with_row, read}
use Rattle.node_rows.proofs.Pivoting.{row_last, with_fits, with_long}
use Rattle.node_rows.proofs.steps.pivoted_with.Goals as goal

pub push_read-requires-clause-unknowns : goal.push_read-requires-clause-unknowns
push_read-requires-clause-unknowns c = ap (λ (s : TableauRows). s.unknowns) c.in_ok-turned.ensures

pub push_read-requires-clause-width : goal.push_read-requires-clause-width
push_read-requires-clause-width c = ap (λ (s : TableauRows). s.width) c.in_ok-turned.ensures

pub exchange-requires-clause-row : goal.exchange-requires-clause-row
exchange-requires-clause-row c =
    let t = c.args.rows.now in
    let made : c.push_read.new.all ≡ with_row t (read t c.args.basis.now c.args.form.now) = c.in_ok-push_read.ensures.ok ∙ ap (λ (s : TableauRows). with_row s (read t c.args.basis.now c.args.form.now)) c.in_ok-turned.ensures in
    omega (arith, c.unknowns.ensures, ap (λ (s : TableauRows). length s.rows) made, with_long t c.args.basis.now c.args.form.now c.requires.read)

pub exchange-requires-clause-column : goal.exchange-requires-clause-column
exchange-requires-clause-column c =
    let wide : c.push_read.new.all.unknowns ≡ c.args.rows.now.unknowns = ap (λ (s : TableauRows). s.unknowns) c.in_ok-push_read.ensures.ok ∙ ap (λ (s : TableauRows). s.unknowns) c.in_ok-turned.ensures in
    rw wide c.requires.column

pub exchange-requires-clause-positive : goal.exchange-requires-clause-positive
exchange-requires-clause-positive c =
    let t = c.args.rows.now in
    let p = read t c.args.basis.now c.args.form.now in
    let made : c.push_read.new.all ≡ with_row t p = c.in_ok-push_read.ensures.ok ∙ ap (λ (s : TableauRows). with_row s p) c.in_ok-turned.ensures in
    let u : c.unknowns.result ≡ t.unknowns = c.unknowns.ensures in
    rw (u, made) (subst (λ (q : Row). pos 1 ≤ℤ entry q.coefs c.args.c) (sym (row_last t.rows p t.unknowns c.requires.read.basis.size)) c.requires.positive)

pub unreachable-requires : goal.unreachable-requires
unreachable-requires c = search (rules, with_fits c.args.rows.now c.args.basis.now c.args.form.now c.requires.read c.args.c c.requires.column)

pub returns : goal.returns
returns c =
    let t = c.args.rows.now in
    let p = read t c.args.basis.now c.args.form.now in
    let made : c.push_read.new.all ≡ with_row t p = c.in_ok-push_read.ensures.ok ∙ ap (λ (s : TableauRows). with_row s p) c.in_ok-turned.ensures in
    c.in-Ok.ensures.ok ∙ ap (λ (s : TableauRows). record s { rows = pivot s.rows c.unknowns.result c.args.c }) made ∙ ap (λ (n : ℕ). record t { rows = pivot (with_row t p).rows n c.args.c }) c.unknowns.ensures
