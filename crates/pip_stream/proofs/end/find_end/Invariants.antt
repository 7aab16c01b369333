use Rattle.pip_stream.proofs.Words.{◌≡◌, ◌+◌, ◌-◌, ◌<◌, ◌≤◌, length, take, true, IfSome, Some, None, most_input_bytes, next_open, IsScanned, first_group_end, Seeks, taken_by}
use Rattle.pip_stream.proofs.end.find_end.Given as goal

abbrev pub invariant-loop-scan : goal.invariant-loop-scan
invariant-loop-scan g l = record {
  scanned : IsScanned (take l.seen l.window.held) l.scan;
  depth : l.scan ≤ l.seen;
  some : l.seen < length l.window.held;
  few : length l.window.held ≤ l.seen + 4096;
  peak : l.window.peak ≤ l.seen + 4096;
  within : taken_by l.window ≤ most_input_bytes;
  base : l.window.base ≡ l.fn.window.base;
  open_still : next_open 0 l.window.held ≡ Some 0;
  told : IfSome (g.S.Source.left l.fn.source) (λ left. Seeks g.S.Source.calls g.S.Source.taken l.fn.source l.source l.fn.window l.window left (g.S.Source.left l.source) true);
  untouched : ¬ (first_group_end l.fn.window.held ≡ None) → (l.source ≡ l.fn.source) × (l.window ≡ l.fn.window);
  quiet : g.S.Source.faults l.source ≡ g.S.Source.faults l.fn.source;
}

abbrev pub decreases-loop-scan : goal.decreases-loop-scan
decreases-loop-scan g l = most_input_bytes - taken_by l.window
