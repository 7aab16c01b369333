use Rattle.refuter.proofs.Words.{◌≡◌, map, take, narrow_to}
use Rattle.refuter.proofs.narrowed.Narrowed.fill.Given as goal

abbrev pub invariant-loop-form : goal.invariant-loop-form
invariant-loop-form l = l.self.forms.items ≡ map (narrow_to l.width) (take l.form-index l.forms)
