use Rattle.std.proofs.lemmas.Option.{IfSome_then}
use Rattle.restrict.proofs.Words.{err_from_is_err_and, restrict-printable, answer_of, tool_fault, node_answer}
use Rattle.walk_laws.proofs.Restricting.{restrict-gives, restrict-refuses}
use Rattle.quast_walk.proofs.GivenRows.{quast_of}
use Rattle.restrict.proofs.restricting.restrict.Goals as goal

pub as_answer-requires : goal.as_answer-requires
as_answer-requires c =
    let m = c.args.rows.now.width in
    rw c.width.ensures (quast_of m c.in_ok-made.made (restrict-printable m c.args.rows.now.forms (answer_of c.args.answer.now) (node_answer c.in_ok-made.made) c.start-work.result c.restricted.new.work c.given.ensures.context c.given.ensures.small c.given.ensures.printable c.in_ok-made.ensures))

pub returns-in_err-made-clause-refusal : goal.returns-in_err-made-clause-refusal
returns-in_err-made-clause-refusal c =
    let p = err_from_is_err_and c.from_residual.result c.from_residual.ensures.1 in
    rw (p.1, p.2) (IfSome_then (tool_fault c.in_err-made.field-0.0) c.in_err-made.ensures (λ f is. restrict-refuses c.args.rows.now.width c.args.rows.now.forms (answer_of c.args.answer.now) f c.start-work.result c.restricted.new.work c.given.ensures.context c.given.ensures.well_formed is))

pub returns-clause-right : goal.returns-clause-right
returns-clause-right c =
    rw c.as_answer.ensures.value (restrict-gives c.args.rows.now.width c.args.rows.now.forms (answer_of c.args.answer.now) (node_answer c.in_ok-made.made) c.start-work.result c.restricted.new.work c.given.ensures.context c.given.ensures.well_formed c.in_ok-made.ensures)
