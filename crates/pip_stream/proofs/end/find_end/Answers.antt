use Rattle.pip_stream.proofs.Words.{◌≡◌, refl, sym, ap, ◌∙◌, ◌+◌, ◌≤◌, arith, length, length-drop, take, drop, err_from_is_err_and, Some, None, HeldBytes, counts-none, counts-refused, first_group_end}
use Rattle.pip_stream.specs.declared.refusal.NextRefusal.TheVariants as next
use Rattle.pip_stream.proofs.Asking.{seeks-start, seeks-last, seeks-more}
use Rattle.pip_stream.proofs.Scanned.{begins_some}
use Rattle.pip_stream.proofs.Steps.{some_more, err-base}
use Rattle.pip_stream.proofs.Ending.{scan-end, scan-none, holds-ended, rest-open, holds-rest, scanned-front, more-open, err-open, ended-err}
use Rattle.pip_stream.proofs.end.find_end.Goals as goal

pub loop-scan-init : goal.loop-scan-init
loop-scan-init g c = record {
  scanned = c.start-scan.ensures;
  depth = omega (arith, c.start-scan.ensures.open_brackets);
  some = begins_some c.args.window.now.held c.requires.0;
  few = omega (arith, c.requires.1.few);
  peak = omega (arith, c.requires.1.peak);
  within = c.requires.1.within;
  base = refl;
  open_still = c.requires.0;
  told = seeks-start g.S.Source.calls g.S.Source.taken c.args.source.now c.args.window.now (g.S.Source.left c.args.source.now);
  untouched = λ some. (refl, refl);
  quiet = refl;
}

pub split_at-requires : goal.split_at-requires
split_at-requires g c = omega (arith, c.loop-scan.invariant.some, ap length c.held.ensures.value)

pub scan-requires : goal.scan-requires
scan-requires g c =
    let i = c.loop-scan.invariant in
    omega (arith, ap length c.split_at.ensures.back, length-drop c.loop-scan.seen c.held.result.now, ap length c.held.ensures.value, i.depth, i.within, i.some)

-- ---- the group ends

pub overflow_add-result : goal.overflow_add-result
overflow_add-result g c =
    let i = c.loop-scan.invariant in
    omega (arith, c.in-Some.ensures.bound, ap length c.split_at.ensures.back, length-drop c.loop-scan.seen c.held.result.now, ap length c.held.ensures.value, i.within, i.some)

pub returns-in-Some : goal.returns-in-Some
returns-in-Some g c =
    let i = c.loop-scan.invariant in
    let low : c.loop-scan.seen ≤ length c.loop-scan.window.held = omega (arith, i.some) in
    let e : first_group_end c.loop-scan.window.held ≡ Some (c.loop-scan.seen + c.in-Some.after) =
    scan-end c.loop-scan.window.held c.split_at.result.1.now c.loop-scan.seen c.in-Some.after low (c.split_at.ensures.back ∙ ap (drop c.loop-scan.seen) c.held.ensures.value) (c.in-Some.ensures.found (take c.loop-scan.seen c.loop-scan.window.held) i.scanned) in
    record {
      window = record {
        place = holds-ended c.loop-scan.window c.loop-scan.seen _ c.in-Some.after i.scanned e i.few i.peak i.within;
        open_still = i.open_still;
        base = i.base;
      };
      end = λ none. let both : Some (c.loop-scan.seen + c.in-Some.after) ≡ None = sym e ∙ none in absurd cc;
      told = rw e i.told;
      faults = counts-none _ _ (λ h. cc) i.quiet;
      untouched = λ some. (i.untouched some).0;
    }

-- ---- the source fails, or the input is too long

pub more-requires : goal.more-requires
more-requires g c = c.loop-scan.invariant.within

pub returns-in_err-more : goal.returns-in_err-more
returns-in_err-more g c =
    let i = c.loop-scan.invariant in
    let p = err_from_is_err_and c.from_residual.result c.from_residual.ensures.1 in
    let h = scan-none c.loop-scan.window.held c.split_at.result.1.now c.loop-scan.seen _ (c.split_at.ensures.back ∙ ap (drop c.loop-scan.seen) c.held.ensures.value) (c.in-None.ensures.open (take c.loop-scan.seen c.loop-scan.window.held) i.scanned) in
    record {
      window = record {
        place = rw (p.1, p.2) (ended-err c.loop-scan.window c.more.new.window _ _ h i.within c.in_err-more.ensures.window);
        open_still = err-open c.loop-scan.window c.more.new.window _ i.open_still c.in_err-more.ensures.window;
        base = err-base c.loop-scan.window c.more.new.window _ c.in_err-more.ensures.window ∙ i.base;
      };
      end = rw p.1 tt;
      told = rw p.1 (seeks-last g.S.Source.calls g.S.Source.taken c.args.source.now c.loop-scan.source c.more.new.source c.args.window.now c.loop-scan.window c.more.new.window _ _ h.not_ended c.more.ensures.told c.more.ensures.asked (g.S.Source.left c.args.source.now) i.told);
      faults = rw (p.1, p.2) (counts-refused _ next.Failed _ _ _ i.quiet c.in_err-more.ensures.faults);
      untouched = λ some. absurd (some (ap (λ (x : HeldBytes). first_group_end x.held) (sym (i.untouched some).1) ∙ h.not_ended));
    }

-- ---- the input ends

pub returns-then-branch-eq0 : goal.returns-then-branch-eq0
returns-then-branch-eq0 g c =
    let i = c.loop-scan.invariant in
    let h = scan-none c.loop-scan.window.held c.split_at.result.1.now c.loop-scan.seen _ (c.split_at.ensures.back ∙ ap (drop c.loop-scan.seen) c.held.ensures.value) (c.in-None.ensures.open (take c.loop-scan.seen c.loop-scan.window.held) i.scanned) in
    let s = some_more c.loop-scan.window c.more.new.window _ c.in_ok-more.ensures.window in
    record {
      window = record {
        place = holds-rest c.loop-scan.window c.more.new.window _ _ _ c.loop-scan.seen h c.in_ok-more.ensures.window c.if-branch-eq0.true (ap length c.held-seen.ensures.value) i.some i.peak;
        open_still = more-open c.loop-scan.window c.more.new.window _ i.open_still c.in_ok-more.ensures.window;
        base = s.base ∙ i.base;
      };
      end = λ _. c.in_ok-more.ensures.end c.if-branch-eq0.true;
      told = rw (rest-open c.loop-scan.window c.more.new.window _ _ h c.in_ok-more.ensures.window c.if-branch-eq0.true) (seeks-last g.S.Source.calls g.S.Source.taken c.args.source.now c.loop-scan.source c.more.new.source c.args.window.now c.loop-scan.window c.more.new.window _ _ h.not_ended c.more.ensures.told c.more.ensures.asked (g.S.Source.left c.args.source.now) i.told);
      faults = counts-none _ _ (λ h. cc) (c.in_ok-more.ensures.faults.quiet (λ h. cc) ∙ i.quiet);
      untouched = λ some. absurd (some (ap (λ (x : HeldBytes). first_group_end x.held) (sym (i.untouched some).1) ∙ h.not_ended));
    }

-- ---- once more

pub loop-scan-smaller : goal.loop-scan-smaller
loop-scan-smaller g c =
    let s = some_more c.loop-scan.window c.more.new.window _ c.in_ok-more.ensures.window in
    omega (arith, s.taken, s.within, c.if-branch-eq0.false)

pub loop-scan-preserved : goal.loop-scan-preserved
loop-scan-preserved g c =
    let i = c.loop-scan.invariant in
    let s = some_more c.loop-scan.window c.more.new.window _ c.in_ok-more.ensures.window in
    let h = scan-none c.loop-scan.window.held c.split_at.result.1.now c.loop-scan.seen _ (c.split_at.ensures.back ∙ ap (drop c.loop-scan.seen) c.held.ensures.value) (c.in-None.ensures.open (take c.loop-scan.seen c.loop-scan.window.held) i.scanned) in
    let seen = ap length c.held-seen.ensures.value in
    record {
      scanned = scanned-front c.loop-scan.window c.more.new.window _ _ _ h c.in_ok-more.ensures.window seen;
      depth = omega (arith, seen, c.scan.ensures.few, ap length c.split_at.ensures.back, length-drop c.loop-scan.seen c.held.result.now, ap length c.held.ensures.value, i.depth, i.some);
      some = omega (arith, seen, s.held, c.if-branch-eq0.false);
      few = omega (arith, seen, s.held, s.few);
      peak = s.peak_high _ (omega (arith, seen, i.peak, i.some)) (omega (arith, seen, s.held, s.few));
      within = s.within;
      base = s.base ∙ i.base;
      open_still = more-open c.loop-scan.window c.more.new.window _ i.open_still c.in_ok-more.ensures.window;
      told = seeks-more g.S.Source.calls g.S.Source.taken c.args.source.now c.loop-scan.source c.more.new.source c.args.window.now c.loop-scan.window c.more.new.window _ _ h.not_ended c.more.ensures.told c.more.ensures.asked (g.S.Source.left c.args.source.now) (omega (arith, s.taken, c.if-branch-eq0.false)) i.told;
      untouched = λ some. absurd (some (ap (λ (x : HeldBytes). first_group_end x.held) (sym (i.untouched some).1) ∙ h.not_ended));
      quiet = c.in_ok-more.ensures.faults.quiet (λ h. cc) ∙ i.quiet;
    }
