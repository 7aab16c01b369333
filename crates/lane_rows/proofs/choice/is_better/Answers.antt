use Rattle.lane_rows.proofs.Words.{get_or, rules, arith, ◌≡◌, ◌<◌, ◌∙◌, sym, subst, [], length, get_or_default, AreLanes}
use Rattle.lane_rows.proofs.Choosing.{same, differ, none_better}
use Rattle.lane_rows.proofs.choice.is_better.Goals as goal

pub returns-in-Some : goal.returns-in-Some
returns-in-Some c =
    let here : c.index-rows-i.result ≡ get_or c.args.rows.now c.loop-i.i [] = c.index-rows-i.is ∙ get_or_default c.args.rows.now c.loop-i.i c.index-rows-i.result [] (omega (arith, c.requires.enough)) in
    let row : AreLanes c.index-rows-i.result = subst AreLanes (sym c.index-rows-i.is) (c.requires.rows c.loop-i.i c.index-rows-i.result (omega (arith, c.requires.enough))) in
    let wide : c.args.n < length c.args.p.now = omega (arith, c.requires.pivot.long, c.requires.few) in
    let long : c.args.n < length c.index-rows-i.result = omega (arith, row.long, c.requires.few) in
    c.in-Some.ensures.is
    ∙ sym (differ c.args.rows.now c.args.p.now c.args.n c.args.k c.args.b c.loop-i.i (omega arith) c.requires.k c.requires.b wide c.index-rows-i.result here long c.in-Some.ensures.other)
    ∙ c.loop-i.invariant

pub loop-i-preserved : goal.loop-i-preserved
loop-i-preserved c =
    let here : c.index-rows-i.result ≡ get_or c.args.rows.now c.loop-i.i [] = c.index-rows-i.is ∙ get_or_default c.args.rows.now c.loop-i.i c.index-rows-i.result [] (omega (arith, c.requires.enough)) in
    let row : AreLanes c.index-rows-i.result = subst AreLanes (sym c.index-rows-i.is) (c.requires.rows c.loop-i.i c.index-rows-i.result (omega (arith, c.requires.enough))) in
    let wide : c.args.n < length c.args.p.now = omega (arith, c.requires.pivot.long, c.requires.few) in
    let long : c.args.n < length c.index-rows-i.result = omega (arith, row.long, c.requires.few) in
    sym (same c.args.rows.now c.args.p.now c.args.n c.args.k c.args.b c.loop-i.i (omega arith) c.requires.k c.requires.b wide c.index-rows-i.result here long c.in-None.ensures) ∙ c.loop-i.invariant

pub returns : goal.returns
returns c = search (rules, none_better c.args.rows.now c.args.p.now c.args.n c.args.k c.args.b c.loop-i.i (omega arith), c.loop-i.invariant)
