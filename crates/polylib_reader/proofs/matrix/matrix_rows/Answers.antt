use Rattle.polylib_reader.proofs.Words.{rules, err_from_is_err_and, matrix_numbers, matrix_rows, read_fault, row_head, refused_by}
use Rattle.polylib_reader.proofs.Fronts.{rows_kept, head_refused, entries_refused}
use Rattle.polylib_reader.proofs.matrix.matrix_rows.Goals as goal

pub returns-in_err-head : goal.returns-in_err-head
returns-in_err-head c =
    let p = err_from_is_err_and c.from_residual.result c.from_residual.ensures.1 in
    rw (p.1, p.2) (refused_by (read_fault c.in_err-head.field-0.0) (row_head c.args.bytes.now c.args.shape.kind c.args.shape.most c.loop.count c.loop.at) (matrix_rows c.args.bytes.now c.args.shape.kind c.args.shape.most c.args.shape.width 0 c.args.shape.rows c.args.place)
    (head_refused c.loop.forms.items c.args.bytes.now c.args.shape.kind c.args.shape.most c.args.shape.width c.loop.count c.args.shape.rows c.loop.counter c.loop.at _ c.loop-test.true c.loop.invariant.so_far) c.in_err-head.ensures.agrees)

pub returns-in_err-entries : goal.returns-in_err-entries
returns-in_err-entries c =
    let p = err_from_is_err_and c.from_residual-in_err-entries.result c.from_residual-in_err-entries.ensures.1 in
    let head = c.in_ok-head.head in
    rw (p.1, p.2) (refused_by (read_fault c.in_err-entries.field-0.0) (matrix_numbers c.args.bytes.now c.args.shape.width head.after) (matrix_rows c.args.bytes.now c.args.shape.kind c.args.shape.most c.args.shape.width 0 c.args.shape.rows c.args.place)
    (entries_refused c.loop.forms.items c.args.bytes.now c.args.shape.kind c.args.shape.most c.args.shape.width c.loop.count c.args.shape.rows c.loop.counter c.loop.at ((head.equality, head.count), head.after) _ c.loop-test.true c.loop.invariant.so_far c.in_ok-head.ensures.agrees)
    c.in_err-entries.ensures.reads)

pub loop-preserved : goal.loop-preserved
loop-preserved c = record {
  so_far = rw c.in_ok-push_inequalities.ensures (rows_kept _ _ _ _ _ _ _ c.loop.counter c.loop.at _ _ c.in_ok-head.head.after _ _ _ c.loop-test.true c.loop.invariant.so_far c.in_ok-head.ensures.agrees c.in_ok-entries.ensures.reads.0);
  count = search rules;
  behind = search rules;
  within = search rules;
}
