use Rattle.pip_stream.proofs.Words.{◌≡◌, ◌-◌, ◌≤◌, true, None, IfSome, most_input_bytes, next_open, Seeks, taken_by, HoldsPiece}
use Rattle.pip_stream.proofs.open.find_open.Given as goal

abbrev pub invariant-loop-window : goal.invariant-loop-window
invariant-loop-window g l = record {
  piece : HoldsPiece l.window;
  base : l.fn.window.base ≤ l.window.base;
  told : IfSome (g.S.Source.left l.fn.source) (λ left. Seeks g.S.Source.calls g.S.Source.taken l.fn.source l.source l.fn.window l.window left (g.S.Source.left l.source) true);
  untouched : ¬ (next_open 0 l.fn.window.held ≡ None) → (l.source ≡ l.fn.source) × (l.window ≡ l.fn.window);
  quiet : g.S.Source.faults l.source ≡ g.S.Source.faults l.fn.source;
}

abbrev pub decreases-loop-window : goal.decreases-loop-window
decreases-loop-window g l = most_input_bytes - taken_by l.window
