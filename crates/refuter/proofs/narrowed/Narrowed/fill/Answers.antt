use Rattle.refuter.proofs.FurtherForms.{narrow-context}
use Rattle.refuter.proofs.narrowed.Narrowed.fill.Goals as goal

pub returns-clause-context : goal.returns-clause-context
returns-clause-context c = rw c.loop-form.invariant (narrow-context c.args.width c.loop-form.form-index c.args.forms.now c.requires)
