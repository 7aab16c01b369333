use Rattle.tableau.proofs.Words.{rules, ap, refl, ◌≡◌, ◌∙◌, ◌+◌, ◌++◌, sym, subst, List, ℤ, length, form_row, numbers_of, content-one, KeptRows, with_more}
use Rattle.tableau.proofs.Flat.{unsealed}
use Rattle.tableau.proofs.Pushed.{pushed}
use Rattle.tableau.proofs.FormRows.{form_numbers, form_fits, form_short}
use Rattle.tableau.proofs.flat_rows.FlatRows.push_form.Goals as goal

pub seal-requires-clause-unsealed : goal.seal-requires-clause-unsealed
seal-requires-clause-unsealed c =
    let s = c.self.inside in
    let f = c.args.form.now in
    let long = subst (λ (t : KeptRows). length f ≡ t.unknowns + t.width + 1) (sym c.self.view_is) c.requires.length in
    let items : c.append_form-short.new.numbers.items ≡ s.numbers.items ++ numbers_of (form_row s.unknowns f) = c.append_form-short.ensures.items ∙ ap (λ (xs : List ℤ). s.numbers.items ++ xs) (sym (form_numbers s.unknowns f)) in
    unsealed s.unknowns s.width _ s.numbers.items c.append_form-short.new.numbers.items s.kept.items (form_row s.unknowns f) items (search rules) c.self.invariant.0
    (form_fits s.unknowns s.width f long c.append_form-short.ensures.form.fits)
    (content-one (form_row s.unknowns f) refl)
    (λ short. form_short s.unknowns f (c.append_form-short.ensures.short short))

pub returns : goal.returns
returns c =
    let s = c.self.inside in
    let f = c.args.form.now in
    let long = subst (λ (t : KeptRows). length f ≡ t.unknowns + t.width + 1) (sym c.self.view_is) c.requires.length in
    let items : c.append_form-short.new.numbers.items ≡ s.numbers.items ++ numbers_of (form_row s.unknowns f) = c.append_form-short.ensures.items ∙ ap (λ (xs : List ℤ). s.numbers.items ++ xs) (sym (form_numbers s.unknowns f)) in
    let row = form_fits s.unknowns s.width f long c.append_form-short.ensures.form.fits in
    pushed c.args.self.now s.unknowns s.width s.most s.numbers.items c.append_form-short.new.numbers.items c.seal.new.numbers.items s.kept.items c.seal.new.kept.items c.len-first.result (form_row s.unknowns f) c.self.view_is items (search rules) row.coefs
    c.seal.ensures.rows
    ∙ ap (λ (t : KeptRows). with_more c.args.self.now (form_row t.unknowns f)) c.self.view_is
