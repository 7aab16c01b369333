use Rattle.quast_text.proofs.Words.{rules, ◌+◌, ◌-◌, err_from_is_err_and, fractions, text_fault, next_fraction, step_more, refused_more}
use Rattle.quast_text.proofs.Fronts.{fractions_more}
use Rattle.quast_text.proofs.fraction.read_fractions.Goals as goal

pub returns-in_err-entry-clause-reads : goal.returns-in_err-entry-clause-reads
returns-in_err-entry-clause-reads c =
    let p = err_from_is_err_and c.from_residual-in_err-entry.result c.from_residual-in_err-entry.ensures.1 in
    rw (p.1, p.2) (refused_more (text_fault c.in_err-entry.field-0.0) c.loop.read.items (next_fraction c.args.bytes.now c.loop.at)
    (λ at. fractions c.args.bytes.now (c.args.count - (c.loop.counter + 1)) at)
    _ _ (fractions_more c.args.bytes.now c.args.count c.loop.counter c.loop.at c.loop-test.true) c.loop.invariant.0 c.in_err-entry.ensures)

pub loop-preserved : goal.loop-preserved
loop-preserved c = (
  rw c.in_ok-push.ensures.items (step_more _ _ _ _ (λ at. fractions c.args.bytes.now (c.args.count - (c.loop.counter + 1)) at) _ _
      (fractions_more c.args.bytes.now c.args.count c.loop.counter c.loop.at c.loop-test.true) c.loop.invariant.0 (search rules)),
  search rules,
  search rules,
  search rules,
)
