use Rattle.refutation_steps.proofs.Words.{rules, arith, ints, pos, ◌≤ℤ◌, ◌<ℤ◌, ◌≡◌, ◌∙◌, [], ◌∷◌, ◌++◌, entry, negate, length, length-map, neg_ℤ, entry-negate}
use Rattle.refutation_steps.proofs.Positives.{push-here, push-later, opposite-here, opposite-later}
use Rattle.refutation_steps.proofs.positive_terms.push_opposites.Goals as goal
use Rattle.refutation_steps.proofs.positive_terms.push_opposites.Goals.{then-numbers-i-lt0+in_ok-push, else-numbers-i-lt0}

pub loop-i-preserved : goal.loop-i-preserved
loop-i-preserved c =
    let is = c.args.indices.now in
    let number : length (negate c.args.numbers.now) ≡ length c.args.indices.now = length-map c.args.numbers.now neg_ℤ ∙ c.requires.number in
    elim c.if-numbers-i-lt0.branch [
      | then-numbers-i-lt0+in_ok-push w ↦
          let made : c.if-numbers-i-lt0.terms ≡ c.loop-i.terms ++ (entry c.args.indices.now c.loop-i.i, entry (negate c.args.numbers.now) c.loop-i.i) ∷ [] = rw (entry-negate c.args.numbers.now c.loop-i.i) (search rules) in
          let below : entry c.args.numbers.now c.loop-i.i <ℤ pos 0 = grind (arith, ints, w.if-numbers-i-lt0.true) in
          push-here is (negate _) c.loop-i.i c.loop-i-test.true number c.loop-i.terms c.if-numbers-i-lt0.terms _ made (opposite-here _ c.loop-i.i below) c.loop-i.invariant
      | else-numbers-i-lt0 w ↦
          let made : c.if-numbers-i-lt0.terms ≡ c.loop-i.terms = search rules in
          let rest : pos 0 ≤ℤ entry c.args.numbers.now c.loop-i.i = grind (arith, ints, w.if-numbers-i-lt0.false) in
          rw made (push-later is (negate _) c.loop-i.i c.loop-i-test.true number c.loop-i.terms _ (opposite-later _ c.loop-i.i rest) c.loop-i.invariant)
    ]
