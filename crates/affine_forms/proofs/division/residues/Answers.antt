use Rattle.affine_forms.proofs.Words.{pos, get_or, take_all, neg_ℤ, arith, to_z, of_z, to_z-of_z, w128, floor_mod, Fits}
use Rattle.affine_forms.proofs.Bits.{residue_made, held_fits, opposite_fits, opposite_kept}
use Rattle.affine_forms.proofs.Mapped.{pushed_made, pushed_all}
use Rattle.affine_forms.proofs.division.residues.Goals as goal

pub loop-entry-preserved : goal.loop-entry-preserved
loop-entry-preserved c =
    let xs = c.args.entries.now in
    let i = c.loop-entry.entry-index in
    let fits = c.requires.fits i (pos 0) (omega arith) in
    let d = to_z w128 (of_z w128 c.args.d) in (
      pushed_made (λ x. floor_mod (neg_ℤ x) d) xs c.loop-entry.found.items c.push.new.self.items i _ (pos 0) (omega arith) c.in_ok-push.ensures.items c.loop-entry.invariant.0
          (residue_made (get_or xs i (pos 0)) d c.floor_mod.result fits c.floor_mod.ensures.fits c.floor_mod.ensures.value),
      pushed_all Fits c.loop-entry.found.items c.push.new.self.items _ c.in_ok-push.ensures.items c.loop-entry.invariant.1 (held_fits c.floor_mod.result c.floor_mod.ensures.fits),
    )

pub overflow_sub-entry : goal.overflow_sub-entry
overflow_sub-entry c = opposite_kept (get_or c.args.entries.now c.loop-entry.entry-index (pos 0)) (c.requires.fits c.loop-entry.entry-index (pos 0) (omega arith))

pub floor_mod-requires-clause-fits : goal.floor_mod-requires-clause-fits
floor_mod-requires-clause-fits c = opposite_fits (get_or c.args.entries.now c.loop-entry.entry-index (pos 0)) (c.requires.fits c.loop-entry.entry-index (pos 0) (omega arith))

pub returns-clause-value : goal.returns-clause-value
returns-clause-value c =
    rw (take_all c.loop-entry.entry-index c.args.entries.now c.loop-entry-test.false, to_z-of_z w128 c.args.d c.ranges.d) at c.loop-entry.invariant.0
