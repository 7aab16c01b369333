use Rattle.form_run.proofs.Words.{◌≡◌, ◌∷◌, map, count_from, summed}
use Rattle.form_run.proofs.room.read.Given as goal

abbrev pub invariant-loop-k : goal.invariant-loop-k
invariant-loop-k l = l.numbers.items ≡ l.basis.scale ∷ map (summed l.places l.basis l.form) (count_from 0 l.k)
