use Rattle.tree_items.proofs.Words.{◌≡◌, pos, [], ◌∷◌, get_or, rules, arith, refl, reduced, IsComponent}
use Rattle.std.proofs.lemmas.List.Elements.{All-push}
use Rattle.tree_items.proofs.Values.{ratios_more}
use Rattle.tree_items.proofs.value.ratios.Goals as goal

pub loop-i-preserved : goal.loop-i-preserved
loop-i-preserved c =
    let made : c.in_ok-ratio.field-0 ≡ reduced c.index-components-i.result.den (get_or c.args.numerators.now c.loop-i.i (pos 0) ∷ []) = search rules in
    let more = ratios_more c.loop-i.made.items c.args.components.now c.args.numerators.now c.loop-i.i c.index-components-i.result _ c.loop-i-test.true (omega (arith, c.loop-i-test.true, c.requires.same)) c.index-components-i.is refl c.loop-i.invariant.values in
    record {
      values = rw (c.in_ok-push.ensures.items, made) more;
      count = search rules;
      components = rw c.in_ok-push.ensures.items (All-push (IsComponent 0) c.loop-i.made.items c.in_ok-ratio.field-0 c.loop-i.invariant.components c.in_ok-ratio.ensures.component);
    }
