use Rattle.pip_reader.proofs.Words.{◌≡◌, ◌+◌, ◌≤◌, take, drop, fold, open_after, group_end_from}
use Rattle.pip_reader.proofs.scan.GroupScan.find_in.Given as goal

abbrev pub invariant-loop-i : goal.invariant-loop-i
invariant-loop-i l = record {
  rest : group_end_from l.depth l.i (drop l.i l.bytes) ≡ group_end_from l.fn.self 0 l.bytes;
  depth : l.depth ≡ fold open_after l.fn.self (take l.i l.bytes);
  bound : l.depth ≤ l.fn.self + l.i;
}
