use Rattle.solve_items.proofs.Words.{◌≡◌, ◌-◌, IfSome, most_input_bytes, options_of, IsReady}
use Rattle.solve_items.proofs.Asked.{Reached}
use Rattle.solve_items.proofs.problems.write_problems_in.Given as goal

abbrev pub invariant-loop-window : goal.invariant-loop-window
invariant-loop-window g l = record {
  ready : IsReady l.window;
  reached : IfSome (g.S.Source.left l.fn.source) (λ bytes. Reached g.S.Source.calls g.S.Source.taken (options_of l.options) bytes l.fn.source l.source l.window (g.S.Source.left l.source) (g.K.Sink.written l.fn.sink) (g.K.Sink.written l.sink));
  read_quiet : g.S.Source.faults l.source ≡ g.S.Source.faults l.fn.source;
  write_quiet : g.K.Sink.faults l.sink ≡ g.K.Sink.faults l.fn.sink;
}

abbrev pub decreases-loop-window : goal.decreases-loop-window
decreases-loop-window g l = most_input_bytes - l.window.base
