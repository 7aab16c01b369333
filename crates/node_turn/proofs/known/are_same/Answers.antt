use Rattle.std.proofs.Common.{◌≡◌, ◌∙◌, sym, ap₂, ◌<◌, ◌≤◌, ℤ, List, ◌∷◌, length, pos, get_or, arith, rules}
use Rattle.std.proofs.lemmas.List.{drop_all, drop_more}
use Rattle.node_turn.proofs.known.are_same.Goals as goal

pub loop-i-init : goal.loop-i-init
loop-i-init c = λ same. same

pub loop-i-preserved : goal.loop-i-preserved
loop-i-preserved c =
    let these = c.args.these.now in
    let those = c.args.those.now in
    let i = c.loop-i.i in
    let inner : i < length those = omega (arith, c.if-these-those.false, c.loop-i-test.true) in
    let heads : get_or these i (pos 0) ≡ get_or those i (pos 0) = search rules in
    λ tails. c.loop-i.invariant (drop_more these i (pos 0) c.loop-i-test.true ∙ (ap₂ (λ (z : ℤ) (zs : List ℤ). z ∷ zs) heads tails ∙ sym (drop_more those i (pos 0) inner)))

pub returns : goal.returns
returns c =
    let these = c.args.these.now in
    let those = c.args.those.now in
    let i = c.loop-i.i in
    let after : length those ≤ i = omega (arith, c.if-these-those.false, c.loop-i-test.false) in
    λ so. c.loop-i.invariant (drop_all i these c.loop-i-test.false ∙ sym (drop_all i those after))
