use Rattle.form_run.proofs.Words.{rules}
use Rattle.form_run.proofs.HeldRows.{empty_held}
use Rattle.form_run.proofs.pivoting.clear.Goals as goal

pub returns : goal.returns
returns c = λ most small. empty_held _ _ _ _ most (search rules) (search rules) (search rules) (search rules) (search rules) (search rules) small
