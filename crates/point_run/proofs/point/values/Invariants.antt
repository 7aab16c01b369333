use Rattle.point_run.proofs.Words.{◌≡◌, map, take, constant, Component, row_component}
use Rattle.point_run.proofs.point.values.Given as goal

abbrev pub invariant-loop-i : goal.invariant-loop-i
invariant-loop-i l = l.values.items ≡ map (λ (c : Component). constant c.form) (map row_component (take l.i l.rows.rows))
