use Rattle.std.proofs.Common.{All}
use Rattle.form_run.proofs.Words.{◌≡◌, take, IsScaled, factors_of}
use Rattle.form_run.proofs.measuring.make_factors.Given as goal

abbrev pub invariant-loop-j : goal.invariant-loop-j
invariant-loop-j l = record {
  values : l.factors.items ≡ factors_of l.scale (take l.j l.rows.rows);
  rows : All (IsScaled l.rows.unknowns 0 l.scale) (take l.j l.rows.rows);
}
