use Rattle.std.proofs.lemmas.Option.{IfSome_then}
use Rattle.least.proofs.Words.{sym, arith, err_from_is_err_and, least-printable, answer_of, tool_fault, node_answer}
use Rattle.walk_laws.proofs.Choosing.{least-gives, least-refuses}
use Rattle.quast_walk.proofs.GivenRows.{quast_of}
use Rattle.least.proofs.Given.{nested_in}
use Rattle.least.proofs.choosing.least.Goals as goal

pub as_answer-requires : goal.as_answer-requires
as_answer-requires c =
    let m = c.args.rows.now.width in
    let rows = c.args.rows.now.forms in
    let made = rw c.start-work.ensures.value at c.in_ok-made.ensures in
    rw c.width.ensures (quast_of m c.in_ok-made.made (least-printable m rows (answer_of c.args.first.now) (answer_of c.args.second.now) (node_answer c.in_ok-made.made) c.args.limits.now c.chosen.new.work c.given.ensures.context c.given.ensures.small (omega (arith, (rw c.start-work.ensures.value at c.start-work.ensures.budget.nesting))) c.given.ensures.printable c.given-2.ensures.printable made))

pub returns-in_err-made-clause-refusal : goal.returns-in_err-made-clause-refusal
returns-in_err-made-clause-refusal c =
    let p = err_from_is_err_and c.from_residual.result c.from_residual.ensures.1 in
    rw (p.1, p.2) (IfSome_then (tool_fault c.in_err-made.field-0.0) c.in_err-made.ensures (λ f is. least-refuses c.args.rows.now.width c.args.rows.now.forms (answer_of c.args.first.now) (answer_of c.args.second.now) f c.start-work.result c.chosen.new.work c.given.ensures.context c.given.ensures.well_formed c.given-2.ensures.well_formed is))

pub returns-clause-right : goal.returns-clause-right
returns-clause-right c =
    rw c.as_answer.ensures.value (least-gives c.args.rows.now.width c.args.rows.now.forms (answer_of c.args.first.now) (answer_of c.args.second.now) (node_answer c.in_ok-made.made) c.start-work.result c.chosen.new.work c.given.ensures.context c.given.ensures.well_formed c.given-2.ensures.well_formed c.in_ok-made.ensures)

pub returns-clause-made : goal.returns-clause-made
returns-clause-made c = record {
  well_formed = rw (sym c.width.ensures) c.as_answer.ensures.well_formed;
  scope = rw (sym c.width.ensures) c.as_answer.ensures.scope;
  nested = nested_in c.args.rows.now.width c.args.rows.now.forms (answer_of c.args.first.now) (answer_of c.args.second.now) c.args.limits.now c.chosen.new.work c.as_answer.result (rw (c.start-work.ensures.value, ← c.as_answer.ensures.value) at c.in_ok-made.ensures);
}
