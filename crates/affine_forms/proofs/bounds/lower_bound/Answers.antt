use Rattle.affine_forms.proofs.Words.{◌∙◌, ap, arith, negate}
use Rattle.affine_forms.proofs.Bits.{held, held_fits}
use Rattle.affine_forms.proofs.Whole.{kept_whole, whole_form}
use Rattle.affine_forms.proofs.bounds.lower_bound.Goals as goal

pub rounding_entries-requires-clause-d : goal.rounding_entries-requires-clause-d
rounding_entries-requires-clause-d c = held_fits c.args.d c.requires.d

pub from_entries-requires : goal.from_entries-requires
from_entries-requires c =
    whole_form c.in_ok-entries.entries.len c.in_ok-entries.entries.items c.deref_mut.result.now c.negate_all.new.entries c.deref_mut.ensures.value c.deref_mut.ensures.len (omega (arith, c.negate_all.auto.entries))
    c.in_ok-entries.ensures.form.some c.negate_all.ensures.fits

pub returns : goal.returns
returns c =
    c.from_entries.ensures
    ∙ kept_whole c.in_ok-entries.entries.len c.in_ok-entries.entries.items c.deref_mut.result.now c.negate_all.new.entries c.deref_mut.ensures.value c.deref_mut.ensures.len (omega (arith, c.negate_all.auto.entries))
    ∙ c.negate_all.ensures.value
    ∙ ap negate (c.deref_mut.ensures.value ∙ (rw (held c.args.d c.requires.d) at c.in_ok-entries.ensures.value))
