use Rattle.lane_run.proofs.Words.{◌≡◌, ◌∙◌, ap, sym, arith, rules, ℕ, ◌+◌, ◌<◌, ◌≤◌, pos, true, false, ◌<ℤ◌, ◌≤ℤ◌, to_z, of_z, length, ◌⊎◌, inl, inr, ints, cases_lt, w32, is_nonneg, row_at, is_not_below, is_nonneg_is}
use Rattle.lane_run.proofs.Parts.{below_zero, lanes_at, cut_is_below}
use Rattle.lane_run.proofs.turn.cut_below.Goals as goal

pub returns-then-get-lt0-clause-some : goal.returns-then-get-lt0-clause-some
returns-then-get-lt0-clause-some c =
    let t = c.args.rows.now in
    let inside : c.loop-i.i < length c.args.rows.now.rows = omega arith in
    let long : c.args.rows.now.unknowns < length c.row-row.result = let e = c.row-row.ensures.laned.lanes.long in let f = c.unknowns-i.ensures.few in omega (arith, e, f) in
    let whole : to_z w32 (of_z w32 c.get.result) ≡ c.get.result = search rules in
    let below : c.get.result <ℤ pos 0 = let e = c.if-get-lt0.true in omega (arith, ints, e, whole) in
    let sign : is_not_below (row_at c.args.rows.now.rows c.loop-i.i) ≡ false =
    sym (lanes_at t t.most c.scale.ensures.rows c.unknowns-i.ensures.rows c.loop-i.i c.row-row.result inside long c.row-row.ensures.value)
    ∙ sym (ap is_nonneg c.get.ensures.value) ∙ below_zero c.get.result below in
    cut_is_below t t.most c.scale.ensures.rows c.unknowns-i.ensures.rows c.loop-i.i c.row-row.result (omega arith) inside sign c.loop-i.invariant c.row-row.ensures.laned.lanes c.row-row.ensures.laned.unused c.row-row.ensures.value

pub loop-i-preserved : goal.loop-i-preserved
loop-i-preserved c =
    let t = c.args.rows.now in
    let inside : c.loop-i.i < length c.args.rows.now.rows = omega arith in
    let long : c.args.rows.now.unknowns < length c.row-row.result = let e = c.row-row.ensures.laned.lanes.long in let f = c.unknowns-i.ensures.few in omega (arith, e, f) in
    let whole : to_z w32 (of_z w32 c.get.result) ≡ c.get.result = search rules in
    let least : pos 0 ≤ℤ c.get.result = let e = c.if-get-lt0.false in omega (arith, ints, e, whole) in
    let sign : is_not_below (row_at c.args.rows.now.rows c.loop-i.i) ≡ true =
    sym (lanes_at t t.most c.scale.ensures.rows c.unknowns-i.ensures.rows c.loop-i.i c.row-row.result inside long c.row-row.ensures.value)
    ∙ sym (ap is_nonneg c.get.ensures.value) ∙ is_nonneg_is c.get.result least in
    λ j le lt. by j le lt (cases_lt j c.loop-i.i) c.loop-i.invariant sign
  where
    by : (j : ℕ) → c.args.rows.now.unknowns ≤ j → j < c.loop-i.i + 1 → (j < c.loop-i.i) ⊎ (c.loop-i.i ≤ j) → ((j : ℕ) → c.args.rows.now.unknowns ≤ j → j < c.loop-i.i → is_not_below (row_at c.args.rows.now.rows j) ≡ true)
        → is_not_below (row_at c.args.rows.now.rows c.loop-i.i) ≡ true → is_not_below (row_at c.args.rows.now.rows j) ≡ true
    by j le lt (inl less) before here = before j le less
    by j le lt (inr more) before here = let s : c.loop-i.i ≡ j = omega (arith, lt, more) in sym (ap (λ (k : ℕ). is_not_below (row_at c.args.rows.now.rows k)) s) ∙ here
