use Rattle.node_rows.proofs.Words.{◌≡◌, ◌∙◌, ap, sym, subst, ℕ, ◌+◌, ◌<◌, ℤ, List, [], ◌∷◌, ◌++◌, length, take, map, get_or, append_assoc, map_more, take_all, Row, TableauRows, with_row, Basis, IsRead, read, all_rows}
use Rattle.std.proofs.lemmas.List.{append-nil}
use Rattle.node_rows.proofs.node_rows.all_made.Goals as goal

none : (t : TableauRows) (b : Basis) → t ≡ all_rows t b []
none t b = ap (λ (rows : List Row). record t { rows = rows }) (sym (append-nil t.rows))

more : (t : TableauRows) (b : Basis) (forms : List (List ℤ)) (i : ℕ) (f : List ℤ) (made new : TableauRows) → i < length forms → f ≡ get_or forms i f
    → made ≡ all_rows t b (take i forms) → new ≡ with_row made (read t b f) → new ≡ all_rows t b (take (i + 1) forms)
more t b forms i f made new lt at e step =
    let grown : map (read t b) (take (i + 1) forms) ≡ map (read t b) (take i forms) ++ read t b f ∷ [] = map_more (read t b) forms i f lt ∙ ap (λ (g : List ℤ). map (read t b) (take i forms) ++ read t b g ∷ []) (sym at) in
    let added : new ≡ with_row (all_rows t b (take i forms)) (read t b f) = step ∙ ap (λ (s : TableauRows). with_row s (read t b f)) e in
    added ∙ ap (λ (rows : List Row). record t { rows = rows }) (append_assoc t.rows (map (read t b) (take i forms)) (read t b f ∷ []) ∙ ap (λ (rows : List Row). t.rows ++ rows) (sym grown))

pub loop-form-init : goal.loop-form-init
loop-form-init c = c.in_ok-made.ensures ∙ none c.args.rows.now c.args.basis.now

pub push_read-requires-clause-read : goal.push_read-requires-clause-read
push_read-requires-clause-read c = subst (IsRead c.args.rows.now c.args.basis.now) (sym c.form-item.is) (c.requires c.loop-form.form-index c.form-item.result c.loop-form-test.true)

pub push_read-requires-clause-unknowns : goal.push_read-requires-clause-unknowns
push_read-requires-clause-unknowns c = ap (λ (s : TableauRows). s.unknowns) c.loop-form.invariant

pub push_read-requires-clause-width : goal.push_read-requires-clause-width
push_read-requires-clause-width c = ap (λ (s : TableauRows). s.width) c.loop-form.invariant

pub loop-form-preserved : goal.loop-form-preserved
loop-form-preserved c = more c.args.rows.now c.args.basis.now c.args.forms.now c.loop-form.form-index c.form-item.result c.loop-form.made c.push_read.new.all c.loop-form-test.true c.form-item.is c.loop-form.invariant c.in_ok-push_read.ensures.ok

pub returns : goal.returns
returns c = c.loop-form.invariant ∙ ap (all_rows c.args.rows.now c.args.basis.now) (take_all c.loop-form.form-index c.args.forms.now c.loop-form-test.false)
