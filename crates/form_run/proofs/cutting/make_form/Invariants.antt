use Rattle.form_run.proofs.Words.{◌≡◌, length}
use Rattle.form_run.proofs.cutting.make_form.Given as goal

abbrev pub invariant-loop-u : goal.invariant-loop-u
invariant-loop-u l = length l.numbers.items ≡ l.u
