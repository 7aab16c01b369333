use Rattle.form_run.proofs.Words.{rules, arith, ◌≡◌, ◌∙◌, [], ◌∷◌, ◌++◌, ap, sym, subst, ℕ, ◌+◌, ◌<◌, pos, ◌≤ℤ◌, length, constant_cut, Row, row_at, form_row, divided, row_of_numbers, TableauRows, with_row, NumberLists, read, IsHeld, IsAbove, all_rows, row_at-front}
use Rattle.form_run.proofs.Below.{above_more}
use Rattle.form_run.proofs.MadeCuts.{cut_divided, row_added, held_more}
use Rattle.form_run.proofs.form_rows.FormRows.push_cut.Goals as goal

pub returns-clause-ok : goal.returns-clause-ok
returns-clause-ok c =
    let s = c.self.inside in
    let i = c.args.i in
    let lt : c.args.i < length c.self.inside.places.rows = omega (arith, c.requires, ap (λ (t : TableauRows). t.unknowns) c.self.view_is, c.self.invariant.0.basis.size) in
    let den : pos 1 ≤ℤ (row_at c.self.inside.places.rows c.args.i).den = (c.self.invariant.0.basis.rows c.args.i (form_row 0 []) lt).wide.den in
    let forms : c.push.new.self ≡ record c.self.inside.forms { lists = c.self.inside.forms.lists ++ c.deref-2.result.now ∷ [] } = search rules in
    let n : c.read_cut.new.row.unknowns ≡ c.self.inside.places.unknowns = search rules in
    let cut : row_at c.read_cut.new.row.rows 1 ≡ constant_cut (row_at c.self.inside.places.rows c.args.i) = search rules in
    let made : read c.self.inside.places c.self.inside.basis c.deref-2.result.now ≡ divided (row_of_numbers c.self.inside.places.unknowns c.row_numbers-row.result.now) = search rules in
    let row : row_of_numbers c.self.inside.places.unknowns c.row_numbers-row.result.now ≡ constant_cut (row_at c.self.inside.places.rows c.args.i)
    = ap (λ (k : ℕ). row_of_numbers k c.row_numbers-row.result.now) (sym n) ∙ c.row_numbers-row.ensures.value ∙ cut in
    ap (λ (l : NumberLists). all_rows s.places s.basis l.lists) forms
    ∙ row_added s.places s.basis s.forms.lists _ (constant_cut (row_at s.places.rows i)) (made ∙ ap divided row ∙ cut_divided (row_at s.places.rows i) den)
    ∙ ap (λ (q : Row). with_row (all_rows s.places s.basis s.forms.lists) (constant_cut q)) (sym (row_at-front s.places.rows _ i lt))
    ∙ ap (λ (t : TableauRows). with_row t (constant_cut (row_at t.rows i))) c.self.view_is

pub read_cut-requires : goal.read_cut-requires
read_cut-requires c = omega (arith, c.requires, ap (λ (t : TableauRows). t.unknowns) c.self.view_is, c.self.invariant.0.basis.size)

pub make_form-requires-clause-size : goal.make_form-requires-clause-size
make_form-requires-clause-size c = omega (arith, c.row_numbers-row.ensures.length, c.in_ok-read_cut.ensures.unknowns, c.self.invariant.0.columns_size)

pub make_form-requires-clause-lists : goal.make_form-requires-clause-lists
make_form-requires-clause-lists c = omega (arith, c.self.invariant.0.columns_size, c.self.invariant.0.columns_count)

pub checked_norm-requires-clause-basis : goal.checked_norm-requires-clause-basis
checked_norm-requires-clause-basis c = c.self.invariant.0.basis

pub checked_norm-requires-clause-size : goal.checked_norm-requires-clause-size
checked_norm-requires-clause-size c = omega (arith, c.row_numbers-row.ensures.length, c.in_ok-read_cut.ensures.unknowns)

pub invariant_of-self : goal.invariant_of-self
invariant_of-self c =
    let s = c.self.inside in
    subst (λ (l : NumberLists). (IsHeld s.places s.basis l s.columns s.norm) × (IsAbove s.places s.basis l.lists s.above)) (sym c.in_err-push.ensures.err) c.self.invariant

pub invariant_of-self-2 : goal.invariant_of-self-2
invariant_of-self-2 c =
    let s = c.self.inside in
    let forms : c.push.new.self ≡ record s.forms { lists = s.forms.lists ++ c.deref-2.result.now ∷ [] } = c.in_ok-push.ensures.ok in
    let same : c.deref-2.result.now ≡ c.deref.result.now = c.deref-2.ensures.value ∙ sym c.deref.ensures.value in
    let wide : length c.deref.result.now ≡ s.places.unknowns + 1 = search rules in
    let held = held_more s.places s.basis s.forms s.columns c.push.new.self s.norm c.in-Some.norm c.deref-2.result.now c.self.invariant.0 forms (rw same wide)
    c.in-Some.ensures.most (rw same c.in-Some.ensures.norm) c.in-Some.ensures.bound in
    let above = above_more s.places s.basis s.forms.lists c.deref-2.result.now s.above c.self.invariant.1 in
    (held, subst (λ (l : NumberLists). IsAbove s.places s.basis l.lists s.above) (sym forms) above)
