use Rattle.node_rows.proofs.Words.{◌≡◌, take}
use Rattle.form_laws.specs.Bounds as bounds
use Rattle.node_rows.proofs.products.norm.Given as goal

abbrev pub invariant-loop-entry : goal.invariant-loop-entry
invariant-loop-entry l = l.sum ≡ bounds.norm (take l.entry-index l.entries)
