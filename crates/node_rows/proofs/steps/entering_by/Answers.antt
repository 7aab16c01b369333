use Rattle.node_rows.proofs.Words.{arith, ◌≡◌, ◌∙◌, ap, sym, subst, ◌≤◌, length, IfSome, Row, row_at, entering, TableauRows, with_row, read}
use Rattle.dual_pivot.specs.Choices.{IsCandidate}
use Rattle.node_rows.proofs.Pivoting.{row_last, with_long}
use Rattle.node_rows.proofs.steps.entering_by.Goals as goal

pub push_read-requires-clause-unknowns : goal.push_read-requires-clause-unknowns
push_read-requires-clause-unknowns c = ap (λ (s : TableauRows). s.unknowns) c.in_ok-with.ensures

pub push_read-requires-clause-width : goal.push_read-requires-clause-width
push_read-requires-clause-width c = ap (λ (s : TableauRows). s.width) c.in_ok-with.ensures

pub entering-requires-clause-row : goal.entering-requires-clause-row
entering-requires-clause-row c =
    let t = c.args.rows.now in
    let made : c.push_read.new.all ≡ with_row t (read t c.args.basis.now c.args.form.now) = c.in_ok-push_read.ensures.ok ∙ ap (λ (s : TableauRows). with_row s (read t c.args.basis.now c.args.form.now)) c.in_ok-with.ensures in
    omega (arith, c.unknowns.ensures, ap (λ (s : TableauRows). length s.rows) made, with_long t c.args.basis.now c.args.form.now c.requires.read)

pub entering-requires-clause-rows : goal.entering-requires-clause-rows
entering-requires-clause-rows c =
    let t = c.args.rows.now in
    let made : c.push_read.new.all ≡ with_row t (read t c.args.basis.now c.args.form.now) = c.in_ok-push_read.ensures.ok ∙ ap (λ (s : TableauRows). with_row s (read t c.args.basis.now c.args.form.now)) c.in_ok-with.ensures in
    subst (λ (s : TableauRows). s.unknowns ≤ length s.rows) (sym made) (omega (arith, with_long t c.args.basis.now c.args.form.now c.requires.read))

pub returns-clause-value : goal.returns-clause-value
returns-clause-value c =
    let t = c.args.rows.now in
    let p = read t c.args.basis.now c.args.form.now in
    let made : c.push_read.new.all ≡ with_row t p = c.in_ok-push_read.ensures.ok ∙ ap (λ (s : TableauRows). with_row s p) c.in_ok-with.ensures in
    c.in_ok-column.ensures.value ∙ ap (λ (s : TableauRows). entering s.rows c.unknowns.result) made ∙ ap (entering (with_row t p).rows) c.unknowns.ensures

pub returns-clause-candidate : goal.returns-clause-candidate
returns-clause-candidate c =
    let t = c.args.rows.now in
    let p = read t c.args.basis.now c.args.form.now in
    let made : c.push_read.new.all ≡ with_row t p = c.in_ok-push_read.ensures.ok ∙ ap (λ (s : TableauRows). with_row s p) c.in_ok-with.ensures in
    let found = subst (λ (s : TableauRows). IfSome c.in_ok-column.column (IsCandidate s.unknowns (row_at s.rows c.unknowns.result))) made c.in_ok-column.ensures.candidate in
    subst (λ (q : Row). IfSome c.in_ok-column.column (IsCandidate t.unknowns q)) (row_last t.rows p c.unknowns.result (c.requires.read.basis.size ∙ sym c.unknowns.ensures)) found
