use Rattle.lane_rows.proofs.ReadLanes.{ReadTo}
use Rattle.lane_rows.proofs.reading.combined.Given as goal

abbrev pub invariant-loop-k : goal.invariant-loop-k
invariant-loop-k l = ReadTo l.n l.rows l.l l.form l.sum l.k
