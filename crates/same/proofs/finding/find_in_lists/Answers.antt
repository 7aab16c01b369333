use Rattle.same.proofs.Words.{◌∙◌, rules, arith, ◌+◌, drop, err_from_is_err_and, same_lists, visit_of}
use Rattle.same.proofs.SameSteps.{at_component}
use Rattle.same.proofs.finding.find_in_lists.Goals as goal

pub returns-in_err-point-clause-gives : goal.returns-in_err-point-clause-gives
returns-in_err-point-clause-gives c =
    let p = err_from_is_err_and c.from_residual.result c.from_residual.ensures.1 in
    let kept = c.loop-i.invariant.kept in
    rw (p.1, p.2) (λ depth.
    let others = same_lists c.args.reading.now.parameters (visit_of c.args.context.now depth) (drop (c.loop-i.i + 1) c.args.first.now) (drop (c.loop-i.i + 1) c.args.second.now) in
    rw (c.loop-i.invariant.compared depth, at_component c.args.reading.now.parameters c.args.context.now depth c.args.first.now c.args.second.now c.loop-i.i c.index-first-i.result c.index-second-i.result (search rules) (search rules) c.index-first-i.is c.index-second-i.is c.loop-i.work) (rw (kept.width, kept.forms) at (c.in_err-point.ensures.finds others)))

pub returns-in-Some-clause-gives : goal.returns-in-Some-clause-gives
returns-in-Some-clause-gives c = λ depth.
    let kept = c.loop-i.invariant.kept in
    let others = same_lists c.args.reading.now.parameters (visit_of c.args.context.now depth) (drop (c.loop-i.i + 1) c.args.first.now) (drop (c.loop-i.i + 1) c.args.second.now) in
    rw (c.loop-i.invariant.compared depth, at_component c.args.reading.now.parameters c.args.context.now depth c.args.first.now c.args.second.now c.loop-i.i c.index-first-i.result c.index-second-i.result (search rules) (search rules) c.index-first-i.is c.index-second-i.is c.loop-i.work) (rw (kept.width, kept.forms, c.in-Some.is) at (c.in_ok-point.ensures.finds others))

pub loop-i-preserved : goal.loop-i-preserved
loop-i-preserved c =
    let kept = c.loop-i.invariant.kept in
    let step = c.find_unequal.ensures.kept in
    record {
      compared = λ depth.
          let others = same_lists c.args.reading.now.parameters (visit_of c.args.context.now depth) (drop (c.loop-i.i + 1) c.args.first.now) (drop (c.loop-i.i + 1) c.args.second.now) in
          rw (c.loop-i.invariant.compared depth, at_component c.args.reading.now.parameters c.args.context.now depth c.args.first.now c.args.second.now c.loop-i.i c.index-first-i.result c.index-second-i.result (search rules) (search rules) c.index-first-i.is c.index-second-i.is c.loop-i.work) (rw (kept.width, kept.forms, c.in-None.is) at (c.in_ok-point.ensures.finds others));
      kept = record { width = step.width ∙ kept.width; forms = step.forms ∙ kept.forms; spare = omega (arith, step.spare, kept.spare) };
    }
