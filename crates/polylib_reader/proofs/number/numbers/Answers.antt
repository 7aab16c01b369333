use Rattle.polylib_reader.proofs.Words.{rules, ◌+◌, ◌-◌, err_from_is_err_and, Fits, matrix_number, matrix_numbers, read_fault, step_more, refused_more}
use Rattle.std.proofs.lemmas.List.Elements.{All-push}
use Rattle.polylib_reader.proofs.Fronts.{numbers_more}
use Rattle.polylib_reader.proofs.number.numbers.Goals as goal

pub returns-in_err-entry-clause-reads : goal.returns-in_err-entry-clause-reads
returns-in_err-entry-clause-reads c =
    let p = err_from_is_err_and c.from_residual-in_err-entry.result c.from_residual-in_err-entry.ensures.1 in
    rw (p.1, p.2) (refused_more (read_fault c.in_err-entry.field-0.0) c.loop.read.items (matrix_number c.args.bytes.now c.loop.at)
    (λ at. matrix_numbers c.args.bytes.now (c.args.count - (c.loop.counter + 1)) at)
    _ _ (numbers_more c.args.bytes.now c.args.count c.loop.counter c.loop.at c.loop-test.true) c.loop.invariant.so_far c.in_err-entry.ensures.reads)

pub loop-preserved : goal.loop-preserved
loop-preserved c = record {
  so_far = rw c.in_ok-push.ensures.items (step_more _ _ _ _ (λ at. matrix_numbers c.args.bytes.now (c.args.count - (c.loop.counter + 1)) at) _ _
      (numbers_more c.args.bytes.now c.args.count c.loop.counter c.loop.at c.loop-test.true) c.loop.invariant.so_far (search rules));
  count = search rules;
  fits = rw c.in_ok-push.ensures.items (All-push Fits _ _ c.loop.invariant.fits (search rules));
  behind = search rules;
  within = search rules;
}
