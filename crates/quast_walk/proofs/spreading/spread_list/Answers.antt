use Rattle.quast_walk.proofs.Words.{◌∙◌, ap, rules, arith, List, map, take_all, map_more, All-push, Component, spread_component, spread_reduced, IsOwnComponent}
use Rattle.quast_walk.proofs.Placing.{made_so, scoped_of}
use Rattle.quast_walk.proofs.spreading.spread_list.Goals as goal

pub loop-i-preserved : goal.loop-i-preserved
loop-i-preserved c = (
  rw (c.in_ok-push.ensures.items, c.loop-i.invariant.0, c.in_ok-component.ensures.value, map_more (spread_reduced c.args.m c.args.n) c.args.components.now c.loop-i.i c.index-components-i.result (search rules), ← c.index-components-i.is),
  rw c.in_ok-push.ensures.items (All-push IsOwnComponent c.loop-i.made.items c.in_ok-component.component c.loop-i.invariant.1 (search rules)),
)

pub returns-clause-value : goal.returns-clause-value
returns-clause-value c = λ w scoped.
    let f = spread_component c.args.m c.args.n in
    let whole = take_all c.loop-i.i c.args.components.now (omega arith) in
    c.loop-i.invariant.0 ∙ ap (λ (cs : List Component). map (spread_reduced c.args.m c.args.n) cs) whole ∙ made_so f w c.args.components.now (scoped_of w (map f c.args.components.now) scoped).each
