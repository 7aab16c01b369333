use Rattle.plain_run.proofs.Words.{map, take, Component, row_component, ◌≡◌, constant}
use Rattle.plain_run.proofs.point.values.Given as goal

abbrev pub invariant-loop-i : goal.invariant-loop-i
invariant-loop-i l = l.values.items ≡ map (λ (c : Component). constant c.form) (map row_component (take l.i l.rows.rows))
