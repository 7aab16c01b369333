use Rattle.pip_stream.proofs.Words.{◌≡◌, refl, sym, ap, ◌∙◌, ◌≤◌, arith, true, false, length, err_from_is_err_and, None, Ok, Err, HeldBytes, counts-none, counts-refused, taken_by}
use Rattle.pip_stream.specs.declared.refusal.NextRefusal.TheVariants as next
use Rattle.pip_stream.proofs.Asking.{seeks-restart, seeks-then, seeks-skips, seeks-calls, calls-item, held-restart, held-opens, held-ends}
use Rattle.pip_stream.proofs.Nexting.{finds-unopened, finds-none, finds-unended, finds-item, leaves-by, limit-by, none-leaves, item-leaves, item-taken, item-not_none, item-not_failed}
use Rattle.pip_stream.proofs.next.next_problem_in.Goals as goal

pub find_open-requires : goal.find_open-requires
find_open-requires g c = record {
  few = omega (arith, ap (λ (x : HeldBytes). length x.held) c.restart.ensures, c.requires.few);
  peak = omega (arith, ap (λ (x : HeldBytes). x.peak) c.restart.ensures, c.requires.few);
  within = omega (arith, ap (λ (x : HeldBytes). taken_by x) c.restart.ensures, c.requires.within);
}

-- ---- no `(` is found

pub returns-in_err-find_open : goal.returns-in_err-find_open
returns-in_err-find_open g c =
    let p = err_from_is_err_and c.from_residual.result c.from_residual.ensures.1 in
    let o = g.S.Source.left c.args.source.now in
    let base : c.args.window.now.base ≤ c.find_open.new.window.base = omega (arith, ap (λ (x : HeldBytes). x.base) c.restart.ensures, c.find_open.ensures.base) in
    let told = seeks-restart g.S.Source.calls g.S.Source.taken c.args.source.now c.find_open.new.source c.args.window.now c.restart.new.self c.find_open.new.window _ o (g.S.Source.left c.find_open.new.source) false c.restart.ensures c.in_err-find_open.ensures.told in
    record {
      finds = rw (p.1, p.2) (finds-unopened c.args.window.now c.find_open.new.window o (g.S.Source.left c.find_open.new.source) _ (seeks-skips g.S.Source.calls g.S.Source.taken c.args.source.now c.find_open.new.source c.args.window.now c.find_open.new.window o (g.S.Source.left c.find_open.new.source) false told) c.in_err-find_open.ensures.window);
      end = λ h. absurd (let e : Err p.0 ≡ Ok None = sym p.1 ∙ h in cc);
      window = rw (p.1, p.2) (leaves-by c.args.window.now c.find_open.new.window _ base (limit-by c.find_open.new.window _ c.in_err-find_open.ensures.window.1));
      calls = rw p.1 (seeks-calls g.S.Source.calls g.S.Source.taken c.args.source.now c.find_open.new.source c.args.window.now c.find_open.new.window o (g.S.Source.left c.find_open.new.source) false told);
      faults = rw (p.1, p.2) (counts-refused _ next.Failed _ _ _ refl c.in_err-find_open.ensures.faults);
      untouched = λ some. (c.find_open.ensures.untouched (held-opens c.restart.new.self (held-restart c.args.window.now c.restart.new.self _ c.restart.ensures some))).0;
    }

-- ---- the input ends without one

pub returns-then-not-branch : goal.returns-then-not-branch
returns-then-not-branch g c =
    let none : c.in_ok-find_open.field-0 ≡ false = c.if-not-branch.true in
    let w = rw none at c.in_ok-find_open.ensures.window in
    let o = g.S.Source.left c.args.source.now in
    let base : c.args.window.now.base ≤ c.find_open.new.window.base = omega (arith, ap (λ (x : HeldBytes). x.base) c.restart.ensures, c.find_open.ensures.base) in
    let told =
    rw none at
    (seeks-restart g.S.Source.calls g.S.Source.taken c.args.source.now c.find_open.new.source c.args.window.now c.restart.new.self c.find_open.new.window _ o (g.S.Source.left c.find_open.new.source) _ c.restart.ensures c.in_ok-find_open.ensures.told) in
    record {
      finds = finds-none c.args.window.now c.find_open.new.window o (g.S.Source.left c.find_open.new.source) (seeks-skips g.S.Source.calls g.S.Source.taken c.args.source.now c.find_open.new.source c.args.window.now c.find_open.new.window o (g.S.Source.left c.find_open.new.source) false told) w.0 (c.in_ok-find_open.ensures.end none);
      end = λ _. c.in_ok-find_open.ensures.end none;
      window = none-leaves c.args.window.now c.find_open.new.window base w;
      calls = seeks-calls g.S.Source.calls g.S.Source.taken c.args.source.now c.find_open.new.source c.args.window.now c.find_open.new.window o (g.S.Source.left c.find_open.new.source) false told;
      faults = counts-none _ _ (λ e. cc) (c.in_ok-find_open.ensures.faults.quiet (λ e. cc));
      untouched = λ some. (c.find_open.ensures.untouched (held-opens c.restart.new.self (held-restart c.args.window.now c.restart.new.self _ c.restart.ensures some))).0;
    }

-- ---- the group does not end

pub find_end-requires : goal.find_end-requires
find_end-requires g c =
    let some : c.in_ok-find_open.field-0 ≡ true = c.if-not-branch.false in
    rw some at c.in_ok-find_open.ensures.window

pub returns-in_err-n : goal.returns-in_err-n
returns-in_err-n g c =
    let some : c.in_ok-find_open.field-0 ≡ true = c.if-not-branch.false in
    let p = err_from_is_err_and c.from_residual-in_err-n.result c.from_residual-in_err-n.ensures.1 in
    let o = g.S.Source.left c.args.source.now in
    let w = c.in_err-n.ensures.window in
    let base : c.args.window.now.base ≤ c.find_end.new.window.base = omega (arith, ap (λ (x : HeldBytes). x.base) c.restart.ensures, c.find_open.ensures.base, w.base) in
    let told =
    seeks-then g.S.Source.calls g.S.Source.taken c.args.source.now c.find_open.new.source c.find_end.new.source c.args.window.now c.find_open.new.window c.find_end.new.window o (g.S.Source.left c.find_open.new.source) (g.S.Source.left c.find_end.new.source) false
    (rw some at
    (seeks-restart g.S.Source.calls g.S.Source.taken c.args.source.now c.find_open.new.source c.args.window.now c.restart.new.self c.find_open.new.window _ o (g.S.Source.left c.find_open.new.source) _ c.restart.ensures c.in_ok-find_open.ensures.told)) c.in_err-n.ensures.told in
    record {
      finds = rw (p.1, p.2) (finds-unended c.args.window.now c.find_end.new.window o (g.S.Source.left c.find_end.new.source) _ (seeks-skips g.S.Source.calls g.S.Source.taken c.args.source.now c.find_end.new.source c.args.window.now c.find_end.new.window o (g.S.Source.left c.find_end.new.source) false told) w.open_still w.place);
      end = λ h. absurd (let e : Err p.0 ≡ Ok None = sym p.1 ∙ h in cc);
      window = rw (p.1, p.2) (leaves-by c.args.window.now c.find_end.new.window _ base (limit-by c.find_end.new.window _ w.place.1));
      calls = rw p.1 (seeks-calls g.S.Source.calls g.S.Source.taken c.args.source.now c.find_end.new.source c.args.window.now c.find_end.new.window o (g.S.Source.left c.find_end.new.source) false told);
      faults = rw (p.1, p.2) (counts-refused _ next.Failed _ _ _ (c.in_ok-find_open.ensures.faults.quiet (λ e. cc)) c.in_err-n.ensures.faults);
      untouched = λ some.
          let start = held-restart c.args.window.now c.restart.new.self _ c.restart.ensures some in
          let u = c.find_open.ensures.untouched (held-opens c.restart.new.self start) in
          c.find_end.ensures.untouched (held-ends c.restart.new.self c.find_open.new.window u.1 start) ∙ u.0;
    }

-- ---- the item is read

pub take_item-requires : goal.take_item-requires
take_item-requires g c = record { open_first = c.in_ok-n.ensures.window.open_still; item = c.in_ok-n.ensures.window.place }

pub returns : goal.returns
returns g c =
    let some : c.in_ok-find_open.field-0 ≡ true = c.if-not-branch.false in
    let o = g.S.Source.left c.args.source.now in
    let w = c.in_ok-n.ensures.window in
    let base : c.args.window.now.base ≤ c.find_end.new.window.base = omega (arith, ap (λ (x : HeldBytes). x.base) c.restart.ensures, c.find_open.ensures.base, w.base) in
    let t = item-taken c.find_end.new.window c.take_item.new.window _ w.place c.take_item.result c.take_item.ensures in
    let told =
    seeks-then g.S.Source.calls g.S.Source.taken c.args.source.now c.find_open.new.source c.find_end.new.source c.args.window.now c.find_open.new.window c.find_end.new.window o (g.S.Source.left c.find_open.new.source) (g.S.Source.left c.find_end.new.source) _
    (rw some at
    (seeks-restart g.S.Source.calls g.S.Source.taken c.args.source.now c.find_open.new.source c.args.window.now c.restart.new.self c.find_open.new.window _ o (g.S.Source.left c.find_open.new.source) _ c.restart.ensures c.in_ok-find_open.ensures.told)) c.in_ok-n.ensures.told in
    record {
      finds = finds-item c.args.window.now c.find_end.new.window c.take_item.new.window o (g.S.Source.left c.find_end.new.source) _ c.take_item.result (seeks-skips g.S.Source.calls g.S.Source.taken c.args.source.now c.find_end.new.source c.args.window.now c.find_end.new.window o (g.S.Source.left c.find_end.new.source) _ told) w.open_still w.place c.in_ok-n.ensures.end c.take_item.ensures;
      end = λ h. absurd (item-not_none c.find_end.new.window c.take_item.new.window _ w.place c.take_item.result c.take_item.ensures h);
      window = item-leaves c.find_end.new.window c.take_item.new.window _ w.place c.args.window.now base c.take_item.result c.take_item.ensures;
      calls = calls-item g.S.Source.calls g.S.Source.taken c.args.source.now c.find_end.new.source c.args.window.now c.find_end.new.window c.take_item.new.window _ c.take_item.result o (g.S.Source.left c.find_end.new.source) c.take_item.ensures t.0 told;
      faults = counts-none _ _ (λ failed. item-not_failed c.find_end.new.window c.take_item.new.window _ w.place c.take_item.result c.take_item.ensures failed) (c.in_ok-n.ensures.faults.quiet (λ e. cc) ∙ c.in_ok-find_open.ensures.faults.quiet (λ e. cc));
      untouched = λ some.
          let start = held-restart c.args.window.now c.restart.new.self _ c.restart.ensures some in
          let u = c.find_open.ensures.untouched (held-opens c.restart.new.self start) in
          c.find_end.ensures.untouched (held-ends c.restart.new.self c.find_open.new.window u.1 start) ∙ u.0;
    }
