use Rattle.tableau.proofs.Words.{◌≡◌, take, map, form_row, with_rows}
use Rattle.tableau.proofs.tableau.push_forms.Given as goal

abbrev pub invariant-loop-form : goal.invariant-loop-form
invariant-loop-form l = l.rows ≡ with_rows l.fn.rows (map (form_row l.fn.rows.unknowns) (take l.form-index l.forms))
