use Rattle.context_points.proofs.Keeping.{known_wider}
use Rattle.context_points.proofs.context.Context.widen.Goals as goal

pub invariant_of-self : goal.invariant_of-self
invariant_of-self c =
    let k = c.self.inside in
    (known_wider k.width k.forms.items k.is_known k.known k.run c.self.invariant.0, (λ tried. absurd cc), c.widen.ensures.asking k.width k.forms.items c.self.invariant.2)
