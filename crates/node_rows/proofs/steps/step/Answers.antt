use Rattle.node_rows.proofs.Words.{rules, arith, ◌≡◌, is_some, common_steps}
use Rattle.node_rows.proofs.steps.step.Goals as goal

pub returns-in_err-column-clause-gives : goal.returns-in_err-column-clause-gives
returns-in_err-column-clause-gives c S N =
    let fault = c.in_err-column.ensures.gives S N in
    record { agrees = grind (arith, common_steps, fault.agrees); counted = fault.counted }

pub returns-clause-gives : goal.returns-clause-gives
returns-clause-gives c S N =
    let given = c.in_ok-column.ensures.gives S N in
    let e : c.is_some.result ≡ is_some c.in_ok-column.column = search rules in
    record { agrees = rw e given.agrees; counted = given.counted }
