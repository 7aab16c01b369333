use Rattle.form_run.proofs.Words.{ℕ, ◌<◌, ◌≤◌, ◌*ℤ◌, ◌-ℤ◌, unsigned_abs, entry}
use Rattle.form_run.proofs.marks.distance.Given as goal

abbrev pub invariant-loop-i : goal.invariant-loop-i
invariant-loop-i l = (k : ℕ) → k < l.i → unsigned_abs (entry l.vertex k *ℤ l.mark.scale -ℤ entry l.mark.vertex.items k *ℤ l.scale) ≤ l.most
