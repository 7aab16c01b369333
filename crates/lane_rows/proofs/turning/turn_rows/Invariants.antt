use Rattle.lane_rows.proofs.Words.{AreLanes}
use Rattle.lane_rows.proofs.Turns.{TurnedTo}
use Rattle.lane_rows.proofs.turning.turn_rows.Given as goal

abbrev pub invariant-loop-j : goal.invariant-loop-j
invariant-loop-j l = record {
  lanes : AreLanes l.sizes;
  turned : TurnedTo l.l l.p l.lane l.fn.rows l.rows l.j l.sizes;
}
