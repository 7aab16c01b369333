use Rattle.node_rows.proofs.Words.{◌≤◌, take, All}
use Rattle.form_laws.specs.Bounds as bounds
use Rattle.node_rows.proofs.products.greatest_norm.Given as goal

abbrev pub invariant-loop-form : goal.invariant-loop-form
invariant-loop-form l = All (λ f. bounds.norm f ≤ l.greatest) (take l.form-index l.forms)
