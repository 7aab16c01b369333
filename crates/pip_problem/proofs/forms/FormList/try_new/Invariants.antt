use Rattle.std.proofs.Common.{◌≡◌, take}
use Rattle.pip_problem.proofs.forms.FormList.try_new.Given as goal

abbrev pub invariant-loop-form : goal.invariant-loop-form
invariant-loop-form l = l.items.items ≡ take l.form-index l.forms
