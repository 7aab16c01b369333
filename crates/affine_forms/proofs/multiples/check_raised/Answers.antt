use Rattle.affine_forms.proofs.Words.{arith, rules, sym, ◌∙◌, get_or, pos}
use Rattle.affine_forms.proofs.Bits.{held_fits}
use Rattle.affine_forms.proofs.Raising.{raised_step, raised_more, raised_end}
use Rattle.affine_forms.proofs.multiples.check_raised.Goals as goal

pub raise_to_multiple-requires-clause-fits : goal.raise_to_multiple-requires-clause-fits
raise_to_multiple-requires-clause-fits c =
    held_fits (get_or c.args.entries.now c.loop-entry.entry-index (pos 0)) (c.requires.fits c.loop-entry.entry-index (pos 0) (omega arith))

pub loop-entry-preserved : goal.loop-entry-preserved
loop-entry-preserved c = (
  sym (raised_step _ c.args.entries.now c.loop-entry.entry-index (omega arith) (search rules)) ∙ c.loop-entry.invariant.0,
  raised_more _ c.args.entries.now c.loop-entry.entry-index (omega arith) c.loop-entry.invariant.1 (search rules),
)

pub returns-clause-fits : goal.returns-clause-fits
returns-clause-fits c = raised_end c.args.d c.args.entries.now c.loop-entry.entry-index c.loop-entry-test.false (search rules)
