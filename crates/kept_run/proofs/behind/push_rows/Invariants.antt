use Rattle.kept_run.proofs.Words.{◌≡◌, ◌++◌, take}
use Rattle.kept_run.proofs.behind.push_rows.Given as goal

abbrev pub invariant-loop-i : goal.invariant-loop-i
invariant-loop-i l = l.rows ≡ record l.fn.rows { rows = l.fn.rows.rows ++ take l.i l.more.rows }
