use Rattle.polylib_reader.proofs.Words.{rules, refl, length, true, err_from_is_err_and, read_matrices, matrix_number, options, read_fault, refused_by, no_big_parameter, context_matrix, constraint_matrix}
use Rattle.polylib_reader.proofs.Problems.{within_limits, context_refused, number_refused, parameter_refused, constraints_refused, options_refused, problem_made}
use Rattle.polylib_reader.proofs.problem.read_matrices.Goals as goal

pub returns-in_err-context-clause-agrees : goal.returns-in_err-context-clause-agrees
returns-in_err-context-clause-agrees c =
    let p = err_from_is_err_and c.from_residual.result c.from_residual.ensures.1 in
    let bytes = c.args.bytes.now in
    rw (p.1, p.2) (refused_by (read_fault c.in_err-context.field-0.0) (context_matrix bytes) (read_matrices bytes) (context_refused bytes) c.in_err-context.ensures.agrees)

pub returns-in_err-number-clause-agrees : goal.returns-in_err-number-clause-agrees
returns-in_err-number-clause-agrees c =
    let p = err_from_is_err_and c.from_residual-in_err-number.result c.from_residual-in_err-number.ensures.1 in
    let bytes = c.args.bytes.now in
    let context = c.in_ok-context.context in
    rw (p.1, p.2) (refused_by (read_fault c.in_err-number.field-0.0) (matrix_number bytes context.after) (read_matrices bytes)
    (number_refused bytes ((context.size, context.forms.items), context.after) c.in_ok-context.ensures.agrees) c.in_err-number.ensures.reads)

pub returns-in_err-place-clause-agrees : goal.returns-in_err-place-clause-agrees
returns-in_err-place-clause-agrees c =
    let p = err_from_is_err_and c.from_residual-in_err-place.result c.from_residual-in_err-place.ensures.1 in
    let bytes = c.args.bytes.now in
    let context = c.in_ok-context.context in
    let big = c.in_ok-number.field-0 in
    rw (p.1, p.2) (refused_by (read_fault c.in_err-place.field-0.0) (no_big_parameter big) (read_matrices bytes)
    (parameter_refused bytes ((context.size, context.forms.items), context.after) c.in_ok-context.ensures.agrees big c.in_ok-number.ensures.reads.0) c.in_err-place.ensures.agrees)

pub returns-in_err-constraints-clause-agrees : goal.returns-in_err-constraints-clause-agrees
returns-in_err-constraints-clause-agrees c =
    let p = err_from_is_err_and c.from_residual-in_err-constraints.result c.from_residual-in_err-constraints.ensures.1 in
    let bytes = c.args.bytes.now in
    let context = c.in_ok-context.context in
    rw (p.1, p.2) (refused_by (read_fault c.in_err-constraints.field-0.0) (constraint_matrix bytes context.size _) (read_matrices bytes)
    (constraints_refused bytes ((context.size, context.forms.items), context.after) c.in_ok-context.ensures.agrees _ c.in_ok-number.ensures.reads.0 _ c.in_ok-place.ensures.agrees) c.in_err-constraints.ensures.agrees)

pub returns-in_err-integer-clause-agrees : goal.returns-in_err-integer-clause-agrees
returns-in_err-integer-clause-agrees c =
    let p = err_from_is_err_and c.from_residual-in_err-integer.result c.from_residual-in_err-integer.ensures.1 in
    let bytes = c.args.bytes.now in
    let context = c.in_ok-context.context in
    let constraints = c.in_ok-constraints.constraints in
    rw (p.1, p.2) (refused_by (read_fault c.in_err-integer.field-0.0) (options bytes (length bytes) true constraints.after) (read_matrices bytes)
    (options_refused bytes ((context.size, context.forms.items), context.after) c.in_ok-context.ensures.agrees _ c.in_ok-number.ensures.reads.0 _ c.in_ok-place.ensures.agrees
    ((constraints.size, constraints.forms.items), constraints.after) c.in_ok-constraints.ensures.agrees) c.in_err-integer.ensures)

pub from_parts-requires : goal.from_parts-requires
from_parts-requires c = rw c.in_ok-comment.ensures (within_limits c.args.bytes.now _ (search rules))

pub returns-clause-agrees : goal.returns-clause-agrees
returns-clause-agrees c =
    let context = c.in_ok-context.context in
    let constraints = c.in_ok-constraints.constraints in
    rw (c.from_parts.ensures, c.in_ok-comment.ensures)
    (problem_made c.args.bytes.now ((context.size, context.forms.items), context.after) c.in_ok-context.ensures.agrees _ c.in_ok-number.ensures.reads.0 _ c.in_ok-place.ensures.agrees
    ((constraints.size, constraints.forms.items), constraints.after) c.in_ok-constraints.ensures.agrees c.in_ok-integer.integer c.in_ok-integer.ensures)

pub returns-clause-group : goal.returns-clause-group
returns-clause-group c = rw (c.from_parts.ensures, c.in_ok-comment.ensures) (record { opened = refl; closed = refl })
