use Rattle.affine_forms.proofs.Words.{pos, arith, rules, get_or, to_z-of_z, w128, All-set, Fits}
use Rattle.affine_forms.proofs.Bits.{held, held_fits}
use Rattle.affine_forms.proofs.Raising.{raised_read}
use Rattle.affine_forms.proofs.Mapped.{mapped_step}
use Rattle.affine_forms.proofs.multiples.raise_all.Goals as goal

pub raise-requires-clause-fits : goal.raise-requires-clause-fits
raise-requires-clause-fits c =
    let i = c.loop-entry.entry-index in
    held_fits (get_or c.loop-entry.entries i (pos 0)) (c.loop-entry.invariant.1 i (pos 0) (omega arith))

pub raise-requires-clause-raised : goal.raise-requires-clause-raised
raise-requires-clause-raised c =
    let i = c.loop-entry.entry-index in
    let d = to_z-of_z w128 c.args.d c.ranges.d in
    rw (d, held (get_or c.loop-entry.entries i (pos 0)) (c.loop-entry.invariant.1 i (pos 0) (omega arith)))
    (raised_read c.args.d c.args.entries.now c.loop-entry.entries i (rw d at c.loop-entry.invariant.0) (omega arith) c.requires.raised)

pub loop-entry-preserved : goal.loop-entry-preserved
loop-entry-preserved c = (
  mapped_step _ _ _ c.loop-entry.entry-index _ (pos 0) (omega arith) c.loop-entry.invariant.0 (search rules),
  All-set Fits _ _ _ (search rules) c.loop-entry.invariant.1,
)
