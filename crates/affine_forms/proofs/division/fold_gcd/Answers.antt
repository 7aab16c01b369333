use Rattle.affine_forms.proofs.Words.{arith, rules, get_or, pos, to_z, of_z, w128}
use Rattle.affine_forms.proofs.Bits.{held, held_fits}
use Rattle.affine_forms.proofs.Divisors.{gcd_one, gcd_through, gcd_narrower}
use Rattle.affine_forms.proofs.division.fold_gcd.Goals as goal

pub gcd_more-found-requires-clause-found_fits : goal.gcd_more-found-requires-clause-found_fits
gcd_more-found-requires-clause-found_fits c = c.loop-entry.invariant.2

pub gcd_more-found-requires-clause-entry_fits : goal.gcd_more-found-requires-clause-entry_fits
gcd_more-found-requires-clause-entry_fits c = held_fits (get_or c.args.entries.now c.loop-entry.entry-index (pos 0)) (c.requires.fits c.loop-entry.entry-index (pos 0) (omega arith))

pub returns-then-found-eq1-clause-value : goal.returns-then-found-eq1-clause-value
returns-then-found-eq1-clause-value c = grind (arith, gcd_one)

pub loop-entry-preserved : goal.loop-entry-preserved
loop-entry-preserved c =
    let fits = c.gcd_more-found.ensures.fits in
    let found = to_z w128 c.loop-entry.found-bits in
    let start = to_z w128 (of_z w128 c.args.start) in
    rw (held c.gcd_more-found.result fits) (
      gcd_through found c.gcd_more-found.result start c.args.entries.now c.loop-entry.entry-index (omega arith) (search rules) c.loop-entry.invariant.0,
      c.gcd_more-found.ensures.low,
      fits,
      gcd_narrower found c.gcd_more-found.result start (search rules) c.loop-entry.invariant.3,
    )
