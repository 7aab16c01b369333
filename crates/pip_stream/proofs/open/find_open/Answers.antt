use Rattle.pip_stream.proofs.Words.{refl, sym, ap, subst, ◌∙◌, ◌≤◌, true, arith, length, err_from_is_err_and, HeldBytes, counts-none, counts-refused, next_open, first_group_end, DropsClosed}
use Rattle.pip_stream.specs.declared.refusal.NextRefusal.TheVariants as next
use Rattle.pip_stream.proofs.Asking.{seeks-start, seeks-closed, seeks-last, seeks-more, closed-none}
use Rattle.pip_stream.proofs.Dropping.{taken-closed}
use Rattle.pip_stream.proofs.Steps.{fewer, some_more, err-base, opened-err, opened-end}
use Rattle.pip_stream.proofs.open.find_open.Goals as goal

pub loop-window-init : goal.loop-window-init
loop-window-init g c = record {
  piece = c.requires;
  base = omega arith;
  told = seeks-start g.S.Source.calls g.S.Source.taken c.args.source.now c.args.window.now (g.S.Source.left c.args.source.now);
  untouched = λ some. (refl, refl);
  quiet = refl;
}

pub skip_closed-requires : goal.skip_closed-requires
skip_closed-requires g c = omega (arith, c.loop-window.invariant.piece.within)

pub more-requires : goal.more-requires
more-requires g c = omega (arith, taken-closed c.loop-window.window c.skip_closed.new.window _ c.skip_closed.ensures, c.loop-window.invariant.piece.within)

-- ---- the source fails, or the input is too long

pub returns-in_err-more : goal.returns-in_err-more
returns-in_err-more g c =
    let i = c.loop-window.invariant in
    let p = err_from_is_err_and c.from_residual.result c.from_residual.ensures.1 in
    let t = taken-closed c.loop-window.window c.skip_closed.new.window _ c.skip_closed.ensures in
    let f = fewer c.loop-window.window c.skip_closed.new.window _ c.skip_closed.ensures in
    let here = seeks-closed g.S.Source.calls g.S.Source.taken c.args.source.now c.loop-window.source c.args.window.now c.loop-window.window c.skip_closed.new.window (g.S.Source.left c.args.source.now) (g.S.Source.left c.loop-window.source) true _ i.told c.skip_closed.ensures in
    record {
      window = rw (p.1, p.2) (opened-err c.skip_closed.new.window c.more.new.window _ c.loop-window-test.ensures.open_now (omega (arith, t, i.piece.within)) c.in_err-more.ensures.window);
      base = omega (arith, f.base, err-base c.skip_closed.new.window c.more.new.window _ c.in_err-more.ensures.window, i.base);
      end = rw p.1 tt;
      told = rw p.1 (seeks-last g.S.Source.calls g.S.Source.taken c.args.source.now c.loop-window.source c.more.new.source c.args.window.now c.skip_closed.new.window c.more.new.window _ _ (ap first_group_end c.loop-window-test.ensures.open_now) c.more.ensures.told c.more.ensures.asked (g.S.Source.left c.args.source.now) here);
      faults = rw (p.1, p.2) (counts-refused _ next.Failed _ _ _ i.quiet c.in_err-more.ensures.faults);
      untouched = λ some. absurd (some (ap (λ (x : HeldBytes). next_open 0 x.held) (sym (i.untouched some).1) ∙ closed-none c.loop-window.window c.skip_closed.new.window c.loop-window-test.ensures));
    }

-- ---- the input ends

pub returns-then-branch-eq0 : goal.returns-then-branch-eq0
returns-then-branch-eq0 g c =
    let i = c.loop-window.invariant in
    let f = fewer c.loop-window.window c.skip_closed.new.window _ c.skip_closed.ensures in
    let s = some_more c.skip_closed.new.window c.more.new.window _ c.in_ok-more.ensures.window in
    let here = seeks-closed g.S.Source.calls g.S.Source.taken c.args.source.now c.loop-window.source c.args.window.now c.loop-window.window c.skip_closed.new.window (g.S.Source.left c.args.source.now) (g.S.Source.left c.loop-window.source) true _ i.told c.skip_closed.ensures in
    record {
      window = opened-end c.skip_closed.new.window c.more.new.window _ c.loop-window-test.ensures.open_now (omega (arith, f.peak, i.piece.peak)) c.in_ok-more.ensures.window c.if-branch-eq0.true;
      base = omega (arith, f.base, s.base, i.base);
      end = λ _. c.in_ok-more.ensures.end c.if-branch-eq0.true;
      told = seeks-last g.S.Source.calls g.S.Source.taken c.args.source.now c.loop-window.source c.more.new.source c.args.window.now c.skip_closed.new.window c.more.new.window _ _ (ap first_group_end c.loop-window-test.ensures.open_now) c.more.ensures.told c.more.ensures.asked (g.S.Source.left c.args.source.now) here;
      faults = counts-none _ _ (λ h. cc) (c.in_ok-more.ensures.faults.quiet (λ h. cc) ∙ i.quiet);
      untouched = λ some. absurd (some (ap (λ (x : HeldBytes). next_open 0 x.held) (sym (i.untouched some).1) ∙ closed-none c.loop-window.window c.skip_closed.new.window c.loop-window-test.ensures));
    }

-- ---- once more

pub loop-window-smaller : goal.loop-window-smaller
loop-window-smaller g c =
    let t = taken-closed c.loop-window.window c.skip_closed.new.window _ c.skip_closed.ensures in
    let s = some_more c.skip_closed.new.window c.more.new.window _ c.in_ok-more.ensures.window in
    omega (arith, t, s.taken, s.within, c.if-branch-eq0.false)

pub loop-window-preserved : goal.loop-window-preserved
loop-window-preserved g c =
    let i = c.loop-window.invariant in
    let f = fewer c.loop-window.window c.skip_closed.new.window _ c.skip_closed.ensures in
    let s = some_more c.skip_closed.new.window c.more.new.window _ c.in_ok-more.ensures.window in
    let few : length c.more.new.window.held ≤ 4096 = omega (arith, s.held, s.few, ap length c.loop-window-test.ensures.open_now) in
    let here = seeks-closed g.S.Source.calls g.S.Source.taken c.args.source.now c.loop-window.source c.args.window.now c.loop-window.window c.skip_closed.new.window (g.S.Source.left c.args.source.now) (g.S.Source.left c.loop-window.source) true _ i.told c.skip_closed.ensures in
    record {
      piece = record { few = few; peak = s.peak_high 4096 (omega (arith, f.peak, i.piece.peak)) few; within = s.within };
      base = omega (arith, f.base, s.base, i.base);
      told = seeks-more g.S.Source.calls g.S.Source.taken c.args.source.now c.loop-window.source c.more.new.source c.args.window.now c.skip_closed.new.window c.more.new.window _ _ (ap first_group_end c.loop-window-test.ensures.open_now) c.more.ensures.told c.more.ensures.asked (g.S.Source.left c.args.source.now) (omega (arith, s.taken, c.if-branch-eq0.false)) here;
      untouched = λ some. absurd (some (ap (λ (x : HeldBytes). next_open 0 x.held) (sym (i.untouched some).1) ∙ closed-none c.loop-window.window c.skip_closed.new.window c.loop-window-test.ensures));
      quiet = c.in_ok-more.ensures.faults.quiet (λ h. cc) ∙ i.quiet;
    }

-- ---- a `(` is found

pub returns : goal.returns
returns g c =
    let i = c.loop-window.invariant in
    let f = fewer c.loop-window.window c.skip_closed.new.window _ c.skip_closed.ensures in
    let t = taken-closed c.loop-window.window c.skip_closed.new.window _ c.skip_closed.ensures in
    record {
      window = (
        c.loop-window-test.ensures.open_now,
        record { few = omega (arith, f.held, i.piece.few); peak = omega (arith, f.peak, i.piece.peak); within = omega (arith, t, i.piece.within) },
      );
      base = omega (arith, f.base, i.base);
      end = λ h. absurd cc;
      told = seeks-closed g.S.Source.calls g.S.Source.taken c.args.source.now c.loop-window.source c.args.window.now c.loop-window.window c.skip_closed.new.window (g.S.Source.left c.args.source.now) (g.S.Source.left c.loop-window.source) true _ i.told c.skip_closed.ensures;
      faults = counts-none _ _ (λ h. cc) i.quiet;
      untouched = λ some.
          let u = i.untouched some in
          (u.0, subst (λ x. DropsClosed x c.skip_closed.new.window true) u.1 c.loop-window-test.ensures);
    }
