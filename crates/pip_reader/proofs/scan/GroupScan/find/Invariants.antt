use Rattle.pip_reader.proofs.Words.{◌≡◌, ◌+◌, ◌-◌, ◌≤◌, take, drop, length, fold, open_after, group_end_from}
use Rattle.pip_reader.proofs.scan.GroupScan.find.Given as goal

abbrev pub invariant-loop-at : goal.invariant-loop-at
invariant-loop-at l = record {
  rest : group_end_from l.self l.at (drop l.at l.bytes) ≡ group_end_from l.fn.self 0 l.bytes;
  depth : l.self ≡ fold open_after l.fn.self (take l.at l.bytes);
  bound : l.self ≤ l.fn.self + l.at;
  within : l.at ≤ length l.bytes;
}

abbrev pub decreases-loop-at : goal.decreases-loop-at
decreases-loop-at l = length l.bytes - l.at
