use Rattle.form_basis.proofs.Words.{◌≡◌, take}
use Rattle.pip_model.specs.Forms as model
use Rattle.form_basis.proofs.products.dot.Given as goal

abbrev pub invariant-loop-i : goal.invariant-loop-i
invariant-loop-i l = l.sum ≡ model.dot l.form (take l.i l.column)
