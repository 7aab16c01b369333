use Rattle.context_points.proofs.Words.{rules, [], false, IsKnown}
use Rattle.context_points.proofs.context.Context.new.Goals as goal

pub invariant_of-result : goal.invariant_of-result
invariant_of-result c =
    let known : IsKnown c.args.width c.new.result.items false 0 c.new-2.result = search rules in
    (known, (λ tried. absurd cc), rw c.new.ensures.items (c.new-5.ensures.asking c.args.width))
