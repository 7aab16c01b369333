use Rattle.pip_solve.proofs.Words.{◌≡◌, ◌+◌, ◌≤◌, length, take}
use Rattle.pip_solve.proofs.starting.add_forms.Given as goal

abbrev pub invariant-loop-form : goal.invariant-loop-form
invariant-loop-form l =
    (l.context.width ≡ l.problem.params)
    × (l.context.forms ≡ take l.form-index l.forms)
    × (length l.forms + l.more ≤ l.context.spare + l.form-index)
