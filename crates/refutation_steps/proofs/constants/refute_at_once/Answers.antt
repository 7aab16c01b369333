use Rattle.refutation_steps.proofs.Words.{rules, ◌≡◌, ◌<◌, ap, sym, ◌∙◌, ℤ, Some, List, [], length, Done, refute, negative_from, form_rows}
use Rattle.refutation_steps.proofs.NoPlaces.{no_places, refuted_at_once}
use Rattle.refutation_steps.proofs.constants.refute_at_once.Goals as goal

pub returns-in_ok-steps-in-Some : goal.returns-in_ok-steps-in-Some
returns-in_ok-steps-in-Some c = λ first w.
    let none : c.args.places.now ≡ [] = no_places c.args.places.now c.is_empty.result c.is_empty.ensures (search rules) in
    let below : negative_from 0 (form_rows 0 c.args.forms.now) ≡ Some c.in-Some.r = search rules in
    let within : c.in-Some.r < length c.args.forms.now = search rules in
    ap (λ (ps : List ℤ). refute (length ps) c.args.forms.now ps first w) none
    ∙ refuted_at_once c.args.forms.now c.in-Some.r below within first w
    ∙ ap (λ s. Done (Some s) w) (sym c.in_ok-steps-in-Some.ensures.value)
