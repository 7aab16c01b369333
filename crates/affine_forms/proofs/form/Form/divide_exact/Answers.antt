use Rattle.affine_forms.proofs.Words.{◌∙◌, ap, arith, to_z-of_z, w128, floor_divided, scale}
use Rattle.affine_forms.proofs.Whole.{kept_whole, whole_form}
use Rattle.affine_forms.proofs.form.Form.divide_exact.Goals as goal

pub invariant_of-self : goal.invariant_of-self
invariant_of-self c =
    whole_form c.self.inside.entries.len c.self.inside.entries.items c.deref_mut.result.now c.divide_evenly.new.entries c.deref_mut.ensures.value c.deref_mut.ensures.len (omega (arith, c.divide_evenly.auto.entries))
    c.self.invariant.some c.divide_evenly.ensures.fits

pub returns-clause-value : goal.returns-clause-value
returns-clause-value c =
    kept_whole c.self.inside.entries.len c.self.inside.entries.items c.deref_mut.result.now c.divide_evenly.new.entries c.deref_mut.ensures.value c.deref_mut.ensures.len (omega (arith, c.divide_evenly.auto.entries))
    ∙ (rw (to_z-of_z w128 c.args.d c.ranges.d) at c.divide_evenly.ensures.value)
    ∙ ap (floor_divided c.args.d) (c.deref_mut.ensures.value ∙ c.self.view_is)

pub returns-clause-exact : goal.returns-clause-exact
returns-clause-exact c =
    ap (scale c.args.d) (kept_whole c.self.inside.entries.len c.self.inside.entries.items c.deref_mut.result.now c.divide_evenly.new.entries c.deref_mut.ensures.value c.deref_mut.ensures.len (omega (arith, c.divide_evenly.auto.entries)))
    ∙ (rw (to_z-of_z w128 c.args.d c.ranges.d) at c.divide_evenly.ensures.exact)
    ∙ c.deref_mut.ensures.value
    ∙ c.self.view_is
