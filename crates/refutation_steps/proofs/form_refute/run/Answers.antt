use Rattle.refutation_steps.proofs.Words.{rules, ◌≡◌, ◌∙◌, ap, ℕ, ◌++◌, [], List, ℤ, length, first_trace, append-nil, run_same, TableauRows}
use Rattle.short_run.specs.Points.{first_rows}
use Rattle.refutation_steps.proofs.Tracing.{first-traced, first-run}
use Rattle.refutation_steps.proofs.form_refute.run.Goals as goal

first : (n : ℕ) (forms : List (List ℤ)) (t : TableauRows) → t ≡ record { unknowns = n; width = 0; rows = first_rows n (forms ++ []) } → t ≡ record { unknowns = n; width = 0; rows = first_rows n forms }
first n forms t e = e ∙ ap (λ (K : List (List ℤ)). record { unknowns = n; width = 0; rows = first_rows n K }) (append-nil forms)

pub refute_run-requires-clause-traced : goal.refute_run-requires-clause-traced
refute_run-requires-clause-traced c =
    let trace : c.restart.new.self ≡ first_trace c.args.places.now (length c.args.forms.now) c.args.first = search rules in
    first-traced c.args.forms.now c.args.places.now c.args.first c.in_ok-rows.rows c.restart.new.self (first (length c.args.places.now) c.args.forms.now c.in_ok-rows.rows (search rules)) trace

pub returns : goal.returns
returns c =
    let trace : c.restart.new.self ≡ first_trace c.args.places.now (length c.args.forms.now) c.args.first = search rules in
    let run = first-run c.args.forms.now c.args.places.now c.args.first c.in_ok-rows.rows c.restart.new.self (first (length c.args.places.now) c.args.forms.now c.in_ok-rows.rows (search rules)) trace c.args.work.now in
    record { gives = run_same c.refute_run.ensures.gives run }
