use Rattle.lanes.proofs.Words.{◌<◌, ◌≤◌, ◌^◌, take, All, unsigned_abs}
use Rattle.lanes.proofs.rows.size_of_all.Given as goal

abbrev pub invariant-loop-k : goal.invariant-loop-k
invariant-loop-k l = record {
  narrow : l.all < 2 ^ 31;
  within : All (λ z. unsigned_abs z ≤ l.all) (take l.k l.row);
}
