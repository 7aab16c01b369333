use Rattle.form_run.proofs.Words.{◌≡◌, ◌++◌, map, take, widen_to}
use Rattle.form_run.proofs.starting.push_forms.Given as goal

abbrev pub invariant-loop-form : goal.invariant-loop-form
invariant-loop-form l = l.all ≡ record l.fn.all { lists = l.fn.all.lists ++ map (widen_to l.n) (take l.form-index l.forms) }
