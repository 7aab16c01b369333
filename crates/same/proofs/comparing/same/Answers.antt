use Rattle.std.proofs.lemmas.Option.{IfSome_then}
use Rattle.same.proofs.Words.{err_from_is_err_and, answer_of, tool_fault, sameness_of}
use Rattle.walk_laws.proofs.Comparing.{same-gives, same-refuses}
use Rattle.same.proofs.Given.{over_rows}
use Rattle.same.proofs.comparing.same.Goals as goal

pub returns-in_err-found-clause-refusal : goal.returns-in_err-found-clause-refusal
returns-in_err-found-clause-refusal c =
    let p = err_from_is_err_and c.from_residual.result c.from_residual.ensures.1 in
    rw (p.1, p.2) (IfSome_then (tool_fault c.in_err-found.field-0.0) c.in_err-found.ensures (λ f is. same-refuses c.args.rows.now.width c.args.rows.now.forms (answer_of c.args.first.now) (answer_of c.args.second.now) f c.start-work.result c.compared.new.work c.given.ensures.context c.given.ensures.well_formed c.given-2.ensures.well_formed is))

pub returns-clause-right : goal.returns-clause-right
returns-clause-right c =
    same-gives c.args.rows.now.width c.args.rows.now.forms (answer_of c.args.first.now) (answer_of c.args.second.now) (sameness_of c.in_ok-found.found) c.start-work.result c.compared.new.work c.given.ensures.context c.given.ensures.well_formed c.given-2.ensures.well_formed c.in_ok-found.ensures

pub returns-clause-scope : goal.returns-clause-scope
returns-clause-scope c =
    over_rows c.args.rows.now.width c.args.rows.now.forms (answer_of c.args.first.now) (answer_of c.args.second.now) c.in_ok-found.found c.given.ensures.context
    (same-gives c.args.rows.now.width c.args.rows.now.forms (answer_of c.args.first.now) (answer_of c.args.second.now) (sameness_of c.in_ok-found.found) c.start-work.result c.compared.new.work c.given.ensures.context c.given.ensures.well_formed c.given-2.ensures.well_formed c.in_ok-found.ensures)
