use Rattle.solve_items.proofs.Words.{◌-◌, refl, ap, ◌∙◌, arith, rules, length, true, err_from_is_err_and, HeldBytes, Solve, options_of, taken_by, is_found, err-same, err-not_ok}
use Rattle.std.proofs.Common.{Ok, Err}
use Rattle.solve_items.proofs.ByProblem.{unmade, faults-own, err-limit, faults-none, faults-ok, faults-after}
use Rattle.item_writing.specs.declared.ending.Ending.TheVariants as ending
use Rattle.item_writing.proofs.Calls.{stops-start, none-taken, in_time-not}
use Rattle.solve_items.proofs.Asked.{starts, calls-by, err-output, err-in_time, none-output, reaches}
use Rattle.item_writing.proofs.Turns.{asks-start}
use Rattle.solve_items.proofs.problems.write_problems_in.Goals as goal

-- ---- no window is made

pub returns-in_err-window : goal.returns-in_err-window
returns-in_err-window g c =
    let p = err_from_is_err_and c.from_residual.result c.from_residual.ensures.1 in
    record {
      output = rw (p.1, p.2, c.in_err-window.ensures.memory) (unmade (options_of c.args.options.now) (g.S.Source.left c.args.source.now) (g.K.Sink.written c.args.sink.now) ((g.S.Source.taken c.args.source.now) - (g.S.Source.taken c.args.source.now)) (omega arith));
      words = rw (p.1, p.2, c.in_err-window.ensures.memory) (λ h. cc);
      end = λ h. err-not_ok _ _ tt p.1 h;
      calls = record {
        asked = stops-start g.S.Source.calls g.S.Source.taken c.args.source.now (Solve (options_of c.args.options.now)) (g.S.Source.left c.args.source.now);
        turns = asks-start g.S.Source.calls g.S.Source.taken c.args.source.now (g.S.Source.left c.args.source.now);
        taken = none-taken (g.S.Source.left c.args.source.now) _;
      };
      in_time = rw (p.1, p.2, c.in_err-window.ensures.memory) (in_time-not g.S.Source.calls g.S.Source.taken c.args.source.now c.args.source.now (g.K.Sink.written c.args.sink.now) (g.K.Sink.written c.args.sink.now) _ (Solve (options_of c.args.options.now)) (g.S.Source.left c.args.source.now) (λ h. cc));
      faults = rw (p.1, p.2, c.in_err-window.ensures.memory) (faults-own _ _ 0 _ _ 0 refl refl ending.WantOfMemory tt);
    }

pub loop-window-init : goal.loop-window-init
loop-window-init g c =
    let is = c.in_ok-window.ensures.fresh in
    record {
      ready = record { few = omega (arith, ap (λ (x : HeldBytes). length x.held) is); within = omega (arith, ap (λ (x : HeldBytes). taken_by x) is) };
      reached = starts g.S.Source.calls g.S.Source.taken (options_of c.args.options.now) c.requires c.args.source.now (g.S.Source.left c.args.source.now) c.in_ok-window.window (g.K.Sink.written c.args.sink.now) is;
      read_quiet = refl;
      write_quiet = refl;
    }

-- ---- a problem is not answered

pub answer_next_in-requires : goal.answer_next_in-requires
answer_next_in-requires g c = record { held = c.loop-window.invariant.ready.few; taken = c.loop-window.invariant.ready.within }

pub returns-in_err-answer_next_in : goal.returns-in_err-answer_next_in
returns-in_err-answer_next_in g c =
    let p = err_from_is_err_and c.from_residual-in_err-answer_next_in.result c.from_residual-in_err-answer_next_in.ensures.1 in
    record {
      output = rw (p.1, p.2) (err-output g.S.Source.calls g.S.Source.taken g.S.Source.left (options_of c.args.options.now) c.requires c.args.source.now c.loop-window.source c.answer_next_in.new.source c.loop-window.window c.answer_next_in.new.window (g.K.Sink.written c.args.sink.now) (g.K.Sink.written c.loop-window.sink) (is_found c.answer_next_in.result) c.loop-window.invariant.reached c.answer_next_in.ensures.calls (g.K.Sink.written c.answer_next_in.new.sink) _ c.loop-window.invariant.ready (λ q. ap g.K.Sink.written (c.in_err-answer_next_in.ensures.kept (λ h. cc) (λ h. q (err-same _ _ h)))) (err-limit _ _ c.in_err-answer_next_in.ensures.limit) c.in_err-answer_next_in.ensures.answers);
      words = rw (p.1, p.2) (λ h. c.in_err-answer_next_in.ensures.words (ap (λ x. Err x) (err-same _ _ h)));
      end = λ h. err-not_ok _ _ tt p.1 h;
      calls = calls-by g.S.Source.calls g.S.Source.taken g.S.Source.left (options_of c.args.options.now) c.requires c.args.source.now c.loop-window.source c.answer_next_in.new.source c.loop-window.window c.answer_next_in.new.window (g.K.Sink.written c.args.sink.now) (g.K.Sink.written c.loop-window.sink) (is_found c.answer_next_in.result) c.loop-window.invariant.reached c.answer_next_in.ensures.calls c.answer_next_in.ensures.bound;
      in_time = rw (p.1, p.2) (err-in_time g.S.Source.calls g.S.Source.taken g.S.Source.left (options_of c.args.options.now) c.requires c.args.source.now c.loop-window.source c.answer_next_in.new.source c.loop-window.window c.answer_next_in.new.window (g.K.Sink.written c.args.sink.now) (g.K.Sink.written c.loop-window.sink) (is_found c.answer_next_in.result) c.loop-window.invariant.reached c.answer_next_in.ensures.calls (g.K.Sink.written c.answer_next_in.new.sink) _ c.in_err-answer_next_in.ensures.answers);
      faults = rw (p.1, p.2) (faults-after _ _ _ _ _ _ c.loop-window.invariant.read_quiet c.loop-window.invariant.write_quiet _ c.in_err-answer_next_in.ensures.faults);
    }

-- ---- once more

pub same-window : goal.same-window
same-window g c = search rules

pub loop-window-smaller : goal.loop-window-smaller
loop-window-smaller g c =
    let more = c.in_ok-answer_next_in.ensures.dropped (ap (λ x. Ok x) c.if-branch.true) in
    let ready = c.in_ok-answer_next_in.ensures.ready in
    omega (arith, more, ready.within)

pub loop-window-preserved : goal.loop-window-preserved
loop-window-preserved g c =
    let done = faults-ok _ _ _ _ _ c.in_ok-answer_next_in.ensures.faults in
    record {
      ready = c.in_ok-answer_next_in.ensures.ready;
      reached = reaches g.S.Source.calls g.S.Source.taken g.S.Source.left (options_of c.args.options.now) c.requires c.args.source.now c.loop-window.source c.answer_next_in.new.source c.loop-window.window c.answer_next_in.new.window (g.K.Sink.written c.args.sink.now) (g.K.Sink.written c.loop-window.sink) true c.loop-window.invariant.reached (rw c.if-branch.true at c.in_ok-answer_next_in.ensures.calls) refl (g.K.Sink.written c.answer_next_in.new.sink) (rw c.if-branch.true at c.in_ok-answer_next_in.ensures.answers);
      read_quiet = done.0 ∙ c.loop-window.invariant.read_quiet;
      write_quiet = done.1 ∙ c.loop-window.invariant.write_quiet;
    }

-- ---- no problem is left

pub returns : goal.returns
returns g c =
    record {
      output = none-output g.S.Source.calls g.S.Source.taken g.S.Source.left (options_of c.args.options.now) c.requires c.args.source.now c.loop-window.source c.answer_next_in.new.source c.loop-window.window c.answer_next_in.new.window (g.K.Sink.written c.args.sink.now) (g.K.Sink.written c.loop-window.sink) (is_found c.answer_next_in.result) c.loop-window.invariant.reached c.answer_next_in.ensures.calls (g.K.Sink.written c.answer_next_in.new.sink) (ap g.K.Sink.written (c.in_ok-answer_next_in.ensures.kept (λ h. absurd (let t = h in let f = c.if-branch.false in cc)) (λ h. cc))) c.in_ok-answer_next_in.ensures.ready.within (rw c.if-branch.false at c.in_ok-answer_next_in.ensures.answers);
      words = λ h. cc;
      end = λ h. c.in_ok-answer_next_in.ensures.end (ap (λ x. Ok x) c.if-branch.false);
      calls = calls-by g.S.Source.calls g.S.Source.taken g.S.Source.left (options_of c.args.options.now) c.requires c.args.source.now c.loop-window.source c.answer_next_in.new.source c.loop-window.window c.answer_next_in.new.window (g.K.Sink.written c.args.sink.now) (g.K.Sink.written c.loop-window.sink) (is_found c.answer_next_in.result) c.loop-window.invariant.reached c.answer_next_in.ensures.calls c.answer_next_in.ensures.bound;
      in_time = in_time-not g.S.Source.calls g.S.Source.taken c.args.source.now c.answer_next_in.new.source (g.K.Sink.written c.args.sink.now) (g.K.Sink.written c.answer_next_in.new.sink) (Ok tt) (Solve (options_of c.args.options.now)) (g.S.Source.left c.args.source.now) (λ h. cc);
      faults =
          let done = faults-ok _ _ _ _ _ c.in_ok-answer_next_in.ensures.faults in
          faults-none _ _ 0 _ _ 0 (done.0 ∙ c.loop-window.invariant.read_quiet) (done.1 ∙ c.loop-window.invariant.write_quiet) tt;
    }
