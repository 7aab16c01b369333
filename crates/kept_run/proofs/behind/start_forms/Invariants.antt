use Rattle.kept_run.proofs.Words.{◌≡◌, map, take, widen_to, form_row}
use Rattle.kept_run.proofs.behind.start_forms.Given as goal

abbrev pub invariant-loop-form : goal.invariant-loop-form
invariant-loop-form l =
    l.rows ≡ record { unknowns = l.unknowns; width = 0; rows = map (form_row l.unknowns) (map (widen_to l.unknowns) (take l.form-index l.forms)) }
