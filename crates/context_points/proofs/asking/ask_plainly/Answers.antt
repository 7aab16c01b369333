use Rattle.context_points.proofs.Words.{rules, ◌≡◌, refl, [], ◌∷◌, ◌++◌, widen_to, form_row, first_rows}
use Rattle.context_points.proofs.asking.ask_plainly.Goals as goal

pub returns : goal.returns
returns c =
    let t = c.push_form.new.rows in
    let n : t.unknowns ≡ c.args.places = search rules in
    let rows : t.rows ≡ first_rows c.args.places c.args.forms.now ++ form_row c.args.places (widen_to c.args.places c.args.form.now) ∷ [] = search rules in
    let told = c.run_on.ensures.finds refl in
    record { gives = rw (← rows, ← n) (search (rules, told)) }
