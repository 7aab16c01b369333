use Rattle.form_basis.proofs.Words.{◌≡◌, take}
use Rattle.form_laws.specs.Bounds as bounds
use Rattle.form_basis.proofs.products.norm.Given as goal

abbrev pub invariant-loop-number : goal.invariant-loop-number
invariant-loop-number l = l.sum ≡ bounds.norm (take l.number-index l.numbers)
