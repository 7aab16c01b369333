use Rattle.affine_forms.proofs.Words.{◌∙◌, arith}
use Rattle.affine_forms.proofs.Whole.{kept_whole, whole_form}
use Rattle.affine_forms.proofs.form.Form.opposite.Goals as goal

pub invariant_of-self : goal.invariant_of-self
invariant_of-self c =
    whole_form c.self.inside.entries.len c.self.inside.entries.items c.deref_mut.result.now c.make_opposite.new.entries c.deref_mut.ensures.value c.deref_mut.ensures.len (omega (arith, c.make_opposite.auto.entries))
    c.self.invariant.some c.make_opposite.ensures.form.fits

pub returns-clause-listed : goal.returns-clause-listed
returns-clause-listed c = rw (← (c.deref_mut.ensures.value ∙ c.self.view_is)) c.make_opposite.ensures.listed

pub returns-clause-ok : goal.returns-clause-ok
returns-clause-ok c =
    let whole = kept_whole c.self.inside.entries.len c.self.inside.entries.items c.deref_mut.result.now c.make_opposite.new.entries c.deref_mut.ensures.value c.deref_mut.ensures.len (omega (arith, c.make_opposite.auto.entries)) in
    rw (whole, ← (c.deref_mut.ensures.value ∙ c.self.view_is)) c.make_opposite.ensures.ok

pub returns-clause-err : goal.returns-clause-err
returns-clause-err c =
    let whole = kept_whole c.self.inside.entries.len c.self.inside.entries.items c.deref_mut.result.now c.make_opposite.new.entries c.deref_mut.ensures.value c.deref_mut.ensures.len (omega (arith, c.make_opposite.auto.entries)) in
    rw (whole, ← (c.deref_mut.ensures.value ∙ c.self.view_is)) c.make_opposite.ensures.err
