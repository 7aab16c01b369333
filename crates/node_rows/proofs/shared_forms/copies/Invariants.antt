use Rattle.node_rows.proofs.Words.{◌≡◌, take}
use Rattle.node_rows.proofs.shared_forms.copies.Given as goal

abbrev pub invariant-loop-form : goal.invariant-loop-form
invariant-loop-form l = l.made.items ≡ take l.form-index l.forms
