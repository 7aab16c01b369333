use Rattle.lane_rows.proofs.Words.{IsVertex}
use Rattle.lane_rows.proofs.starting.vertex.Given as goal

abbrev pub invariant-loop-j : goal.invariant-loop-j
invariant-loop-j l = IsVertex l.j l.rows l.l l.at
