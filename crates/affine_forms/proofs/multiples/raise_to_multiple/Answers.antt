use Rattle.affine_forms.proofs.Words.{to_z, of_z, to_z-of_z, w128}
use Rattle.affine_forms.proofs.Bits.{held, residue_made, opposite_fits, opposite_kept}
use Rattle.affine_forms.proofs.multiples.raise_to_multiple.Goals as goal

pub overflow_sub-x : goal.overflow_sub-x
overflow_sub-x c = opposite_kept c.args.x c.requires.fits

pub floor_mod-requires-clause-fits : goal.floor_mod-requires-clause-fits
floor_mod-requires-clause-fits c = opposite_fits c.args.x c.requires.fits

pub returns : goal.returns
returns c =
    let made = residue_made c.args.x (to_z w128 (of_z w128 c.args.d)) c.floor_mod.result c.requires.fits c.floor_mod.ensures.fits c.floor_mod.ensures.value in
    rw (held c.args.x c.requires.fits, rw (to_z-of_z w128 c.args.d c.ranges.d) at made) at c.plus.ensures
