use Rattle.point_run.proofs.Words.{◌≡◌, ◌∙◌, ap, ◌++◌, [], ◌∷◌, List, ℤ, map, take, get_or, widen_to, form_row, TableauRows}
use Rattle.point_turns.proofs.Pointing.{length_start}
use Rattle.point_run.proofs.WidenedRows.{all_over, start_more}
use Rattle.point_run.proofs.rows.start_rows.Goals as goal

pub returns-then-are_over-clause-value : goal.returns-then-are_over-clause-value
returns-then-are_over-clause-value c = rw (all_over c.args.places c.args.forms.now (c.are_over.ensures c.if-are_over.true)) c.in_ok-rows.ensures

pub returns-then-are_over-clause-rows : goal.returns-then-are_over-clause-rows
returns-then-are_over-clause-rows c = rw c.in_ok-rows.ensures (length_start c.args.places 0 c.args.forms.now)

pub loop-form-preserved : goal.loop-form-preserved
loop-form-preserved c =
    let now : TableauRows = c.loop-form.rows in
    let with_form : List ℤ → TableauRows = λ (form : List ℤ). record now { rows = now.rows ++ form_row now.unknowns (widen_to now.unknowns form) ∷ [] } in
    let form : c.as_slice.result.now ≡ get_or c.args.forms.now c.loop-form.form-index c.form-item.result = c.as_slice.ensures.value ∙ c.form-item.is in
    start_more c.args.places c.args.forms.now c.loop-form.form-index c.form-item.result now c.push_widened.new.rows c.loop-form-test.true c.loop-form.invariant
    (c.in_ok-push_widened.ensures.ok ∙ ap with_form form)

pub returns-clause-rows : goal.returns-clause-rows
returns-clause-rows c =
    rw c.loop-form.invariant (length_start c.args.places 0 (map (widen_to c.args.places) (take c.loop-form.form-index c.args.forms.now)))
