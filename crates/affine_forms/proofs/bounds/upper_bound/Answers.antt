use Rattle.affine_forms.proofs.Words.{arith, ints, lt-ltb, ◌^◌, unsigned_abs, to_z-of_z, w128}
use Rattle.affine_forms.proofs.Whole.{whole_form}
use Rattle.affine_forms.proofs.bounds.upper_bound.Goals as goal

pub rounding_entries-requires-clause-d : goal.rounding_entries-requires-clause-d
rounding_entries-requires-clause-d c = rw (to_z-of_z w128 c.args.d c.ranges.d) (lt-ltb (unsigned_abs c.args.d) (2 ^ 127) (omega (arith, ints, c.ranges.d)))

pub from_entries-requires : goal.from_entries-requires
from_entries-requires c =
    whole_form c.in_ok-entries.entries.len c.in_ok-entries.entries.items c.deref_mut.result.now c.add_below.new.entries c.deref_mut.ensures.value c.deref_mut.ensures.len (omega (arith, c.add_below.auto.entries))
    c.in_ok-entries.ensures.form.some c.add_below.ensures.form.fits
