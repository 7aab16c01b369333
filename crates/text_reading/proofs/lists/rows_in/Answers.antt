use Rattle.std.proofs.Common.{rules, ◌+◌, ◌-◌}
use Rattle.std.proofs.lemmas.Result.{err_from_is_err_and}
use Rattle.pip_model.specs.Reading.{row, rows}
use Rattle.text_reading.specs.Steps.{fault_of}
use Rattle.text_reading.proofs.Fronts.{step_more, refused_more, rows_more}
use Rattle.text_reading.proofs.lists.rows_in.Goals as goal

pub returns-in_err-entries : goal.returns-in_err-entries
returns-in_err-entries c =
    let p = err_from_is_err_and c.from_residual-in_err-entries.result c.from_residual-in_err-entries.ensures.1 in
    rw (p.1, p.2) (refused_more (fault_of c.in_err-entries.field-0.0) c.loop.forms.items (row c.args.bytes.now c.args.width c.loop.at)
    (λ at. rows c.args.bytes.now (c.args.count - (c.loop.counter + 1)) c.args.width at)
    _ _ (rows_more c.args.bytes.now c.args.count c.args.width c.loop.counter c.loop.at c.loop-test.true) c.loop.invariant.0 c.in_err-entries.ensures.reads)

pub loop-preserved : goal.loop-preserved
loop-preserved c = (
  rw c.in_ok-push.ensures.items (step_more _ _ _ _ (λ at. rows c.args.bytes.now (c.args.count - (c.loop.counter + 1)) c.args.width at) _ _
      (rows_more c.args.bytes.now c.args.count c.args.width c.loop.counter c.loop.at c.loop-test.true) c.loop.invariant.0 (search rules)),
  search rules,
  search rules,
)
