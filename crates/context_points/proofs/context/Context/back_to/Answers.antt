use Rattle.context_points.proofs.Words.{rules, ◌≡◌, ◌≤◌, length, take, IsContext}
use Rattle.context_points.proofs.Keeping.{known_front}
use Rattle.context_points.proofs.context.Context.back_to.Goals as goal

pub invariant_of-self : goal.invariant_of-self
invariant_of-self c =
    let k = c.self.inside in
    let forms : c.keep_from.new.forms.items ≡ take c.args.mark.forms k.forms.items = search rules in
    let room : c.args.mark.forms ≤ length k.forms.items = search rules in
    let narrow : IsContext c.args.mark.width (take c.args.mark.forms k.forms.items) = search rules in
    rw forms (known_front k.width k.forms.items k.is_known k.known k.run c.self.invariant.0 c.args.mark.width c.args.mark.forms c.stays-self-inside.result room narrow c.stays-self-inside.ensures, (λ tried. absurd cc), c.back_to.ensures.asking k.width k.forms.items room c.self.invariant.2)
