use Rattle.context_points.proofs.Words.{rules, ◌≡◌, [], false, IsKnown}
use Rattle.context_points.proofs.context.Context.restart.Goals as goal

pub invariant_of-self : goal.invariant_of-self
invariant_of-self c =
    let k = c.self.inside in
    let none : c.keep_from.new.forms.items ≡ [] = search rules in
    let known : IsKnown c.args.width c.keep_from.new.forms.items false 0 k.run = search rules in
    (known, (λ tried. absurd cc), rw none (c.restart.ensures.asking c.args.width))
