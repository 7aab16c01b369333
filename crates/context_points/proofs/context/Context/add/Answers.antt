use Rattle.context_points.proofs.Words.{rules, arith, ◌≡◌, ◌+◌, ◌≤◌, [], ◌∷◌, ◌++◌, length}
use Rattle.context_points.proofs.Keeping.{known_longer}
use Rattle.context_points.proofs.context.Context.add.Goals as goal

pub invariant_of-self : goal.invariant_of-self
invariant_of-self c =
    let k = c.self.inside in
    let forms : c.push.new.self.items ≡ k.forms.items ++ c.args.f ∷ [] = search rules in
    let narrow : length c.args.f ≤ k.width + 1 = search rules in
    rw forms (known_longer k.width k.forms.items k.is_known k.known k.run c.self.invariant.0 c.args.f (omega (arith, c.width.ensures.entries)) narrow, (λ tried. absurd cc), c.grow.ensures.asking k.width k.forms.items c.args.f c.self.invariant.2)
