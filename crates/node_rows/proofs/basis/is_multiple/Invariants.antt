use Rattle.node_rows.proofs.Words.{take, All, IsScaled}
use Rattle.node_rows.proofs.basis.is_multiple.Given as goal

abbrev pub invariant-loop-j : goal.invariant-loop-j
invariant-loop-j l = All (IsScaled l.rows.unknowns l.rows.width l.scale) (take l.j l.rows.rows)
