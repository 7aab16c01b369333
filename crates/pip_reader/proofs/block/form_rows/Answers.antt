use Rattle.pip_reader.proofs.Words.{rules, ◌+◌, ◌-◌, err_from_is_err_and, read_fault, form_row, form_rows, step_more, refused_more}
use Rattle.pip_reader.proofs.Constants.{form_rows_more}
use Rattle.pip_reader.proofs.block.form_rows.Goals as goal

pub returns-in_err-form : goal.returns-in_err-form
returns-in_err-form c =
    let p = err_from_is_err_and c.from_residual-in_err-form.result c.from_residual-in_err-form.ensures.1 in
    rw (p.1, p.2) (refused_more (read_fault c.in_err-form.field-0.0) c.loop.forms.items (form_row c.args.bytes.now c.args.block.width c.args.block.coefficients c.loop.at)
    (λ at. form_rows c.args.bytes.now (c.args.block.rows - (c.loop.counter + 1)) c.args.block.width c.args.block.coefficients at)
    _ _ (form_rows_more c.args.bytes.now c.args.block.rows c.args.block.width c.args.block.coefficients c.loop.counter c.loop.at c.loop-test.true) c.loop.invariant.0 c.in_err-form.ensures)

pub loop-preserved : goal.loop-preserved
loop-preserved c = (
  rw c.in_ok-push.ensures.items (step_more _ _ _ _ (λ at. form_rows c.args.bytes.now (c.args.block.rows - (c.loop.counter + 1)) c.args.block.width c.args.block.coefficients at) _ _
      (form_rows_more c.args.bytes.now c.args.block.rows c.args.block.width c.args.block.coefficients c.loop.counter c.loop.at c.loop-test.true) c.loop.invariant.0 (search rules)),
  search rules,
  search rules,
)
