use Rattle.form_run.proofs.Words.{rules, ◌≡◌, refl, ◌++◌, first_rows}
use Rattle.short_run.proofs.Leaving.{run_same}
use Rattle.form_run.proofs.Started.{finds_is}
use Rattle.form_run.proofs.asking.ask.Goals as goal

pub returns : goal.returns
returns c =
    let rows : c.in_ok-rows.rows ≡ record { unknowns = c.args.places; width = 0; rows = first_rows c.args.places (c.args.forms.now ++ c.args.further.now) } = search rules in
    record { gives = run_same (c.run_on.ensures.finds refl) (finds_is c.args.places (c.args.forms.now ++ c.args.further.now) c.in_ok-rows.rows c.args.work.now rows) }
