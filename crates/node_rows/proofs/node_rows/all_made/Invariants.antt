use Rattle.node_rows.proofs.Words.{◌≡◌, take, all_rows}
use Rattle.node_rows.proofs.node_rows.all_made.Given as goal

abbrev pub invariant-loop-form : goal.invariant-loop-form
invariant-loop-form l = l.made ≡ all_rows l.rows l.basis (take l.form-index l.forms)
