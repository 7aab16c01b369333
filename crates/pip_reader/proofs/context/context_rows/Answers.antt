use Rattle.pip_reader.proofs.Words.{◌≡◌, ◌∙◌, ◌+◌, ◌<◌, ◌++◌, ◌∷◌, [], ap, rules, err_from_is_err_and, FormsOfWidth, read_fault, list_end, list_more, list_refused, next_row}
use Rattle.std.proofs.Common.{Ok, Some, None}
use Rattle.pip_reader.proofs.RowSteps.{rows_by}
use Rattle.pip_reader.proofs.context.context_rows.Goals as goal

pub returns-in_err-form-clause-reads : goal.returns-in_err-form-clause-reads
returns-in_err-form-clause-reads c =
    let p = err_from_is_err_and c.from_residual.result c.from_residual.ensures.1 in
    rw (p.1, p.2) (list_refused c.loop-read.read.forms _ _ _ _ _ (rows_by c.args.bytes.now (c.args.np + 1) c.loop-read.left c.loop-read.at) c.loop-read.invariant.so_far
    (read_fault c.in_err-form.field-0.0) c.in_err-form.ensures.agrees)

pub loop-read-preserved : goal.loop-read-preserved
loop-read-preserved c =
    let next : next_row c.args.bytes.now (c.args.np + 1) c.loop-read.left c.loop-read.at ≡ Ok (Some (c.in-Some.form, c.in-Some.after)) = search rules in
    let forms : c.push.new.self.forms ≡ c.loop-read.read.forms ++ c.in-Some.form ∷ [] = ap (λ (w : FormsOfWidth). w.forms) c.in_ok-push.ensures.ok in
    let width : c.push.new.self.width ≡ c.loop-read.read.width = ap (λ (w : FormsOfWidth). w.width) c.in_ok-push.ensures.ok in
    let left : 0 < c.loop-read.left = search rules in
    rw forms (record {
      so_far = list_more c.loop-read.read.forms _ _ _ _ _ (rows_by c.args.bytes.now (c.args.np + 1) c.loop-read.left c.loop-read.at) c.loop-read.invariant.so_far c.in-Some.form c.in-Some.after next;
      width = width ∙ c.loop-read.invariant.width;
      low = search rules;
      high = search rules;
    })

pub returns-clause-reads : goal.returns-clause-reads
returns-clause-reads c =
    let next : next_row c.args.bytes.now (c.args.np + 1) c.loop-read.left c.loop-read.at ≡ Ok None = search rules in
    let read = list_end c.loop-read.read.forms _ _ _ _ _ (rows_by c.args.bytes.now (c.args.np + 1) c.loop-read.left c.loop-read.at) c.loop-read.invariant.so_far next in
    (read ∙ search rules, search rules, search rules)
