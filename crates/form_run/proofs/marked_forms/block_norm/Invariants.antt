use Rattle.form_run.proofs.Words.{NormsWithin}
use Rattle.form_run.proofs.marked_forms.block_norm.Given as goal

abbrev pub invariant-loop-i : goal.invariant-loop-i
invariant-loop-i l = NormsWithin l.forms l.at l.i l.most
