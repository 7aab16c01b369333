use Rattle.form_run.proofs.Words.{pos, ◌≤ℤ◌, ValuesFrom}
use Rattle.form_run.proofs.looking.look.Given as goal

abbrev pub invariant-loop-i : goal.invariant-loop-i
invariant-loop-i l = (pos 0 ≤ℤ l.least) × (ValuesFrom l.places l.basis l.forms.lists l.at l.i l.least)
