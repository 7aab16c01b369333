use Rattle.form_run.proofs.Words.{◌≤◌, take}
use Rattle.std.proofs.Common.{All}
use Rattle.form_basis.specs.Bounds as bounds
use Rattle.form_run.proofs.starting.greatest_norm.Given as goal

abbrev pub invariant-loop-i : goal.invariant-loop-i
invariant-loop-i l = All (λ f. bounds.norm f ≤ l.greatest) (take l.i l.all.lists)
