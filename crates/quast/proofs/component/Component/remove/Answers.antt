use Rattle.quast.proofs.Lowest.{component-removed}
use Rattle.quast.proofs.component.Component.remove.Goals as goal

pub invariant_of-self : goal.invariant_of-self
invariant_of-self c = rw c.remove.ensures (component-removed c.args.i (record { den = c.self.inside.den; form = c.self.inside.form }) (rw c.self.view_is c.requires) c.self.invariant)
