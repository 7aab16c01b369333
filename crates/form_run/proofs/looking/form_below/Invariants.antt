use Rattle.form_run.proofs.Words.{◌≡◌, ◌-◌, IsAbove}
use Rattle.form_run.proofs.looking.form_below.Given as goal

abbrev pub invariant-loop-at : goal.invariant-loop-at
invariant-loop-at l = (l.forms ≡ l.fn.forms) × (IsAbove l.places l.basis l.fn.forms.lists l.at)

abbrev pub decreases-loop-at : goal.decreases-loop-at
decreases-loop-at l = l.count - l.at
