use Rattle.refutation_steps.proofs.Words.{◌≡◌, drop, negative_from, form_rows}
use Rattle.refutation_steps.proofs.constants.first_below.Given as goal

abbrev pub invariant-loop-i : goal.invariant-loop-i
invariant-loop-i l = negative_from l.i (drop l.i (form_rows 0 l.forms)) ≡ negative_from 0 (form_rows 0 l.forms)
