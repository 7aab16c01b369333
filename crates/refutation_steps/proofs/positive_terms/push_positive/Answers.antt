use Rattle.refutation_steps.proofs.Words.{rules, ◌≡◌, true, false, [], ◌∷◌, ◌++◌, is_positive, entry}
use Rattle.refutation_steps.proofs.Positives.{push-here, push-later, kept-here, longer-here}
use Rattle.refutation_steps.proofs.positive_terms.push_positive.Goals as goal
use Rattle.refutation_steps.proofs.positive_terms.push_positive.Goals.{then-positive+in_ok-push, else-positive}

pub loop-i-preserved : goal.loop-i-preserved
loop-i-preserved c =
    let is = c.args.indices.now in
    elim c.if-positive.branch [
      | then-positive+in_ok-push w ↦
          let e : is_positive (entry c.args.multipliers.now c.loop-i.i) ≡ true = search rules in
          let made : c.if-positive.terms ≡ c.loop-i.terms ++ (entry c.args.indices.now c.loop-i.i, entry c.args.multipliers.now c.loop-i.i) ∷ [] = search rules in (
            push-here is _ c.loop-i.i c.loop-i-test.true c.requires.number c.loop-i.terms c.if-positive.terms _ made e c.loop-i.invariant.0,
            kept-here c.args.terms.now c.loop-i.terms c.if-positive.terms _ made c.loop-i.invariant.1 c.loop-i.invariant.2,
            longer-here c.args.terms.now c.loop-i.terms c.if-positive.terms _ made c.loop-i.invariant.2,
          )
      | else-positive w ↦
          let e : is_positive (entry c.args.multipliers.now c.loop-i.i) ≡ false = search rules in
          let made : c.if-positive.terms ≡ c.loop-i.terms = search rules in
          rw made (push-later is _ c.loop-i.i c.loop-i-test.true c.requires.number c.loop-i.terms _ e c.loop-i.invariant.0, c.loop-i.invariant.1, c.loop-i.invariant.2)
    ]
