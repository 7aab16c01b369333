use Rattle.least.proofs.Words.{rules, arith, ◌<◌, length, drop_more, err_from_is_err_and, count_if, where_holds, tool_fault, visit_of, stops, rest_chosen}
use Rattle.least.proofs.lesser_lists.+lesser.Goals as goal

pub choose_by-returns-in_err-count_if-in-Unknown-clause-gives : goal.choose_by-returns-in_err-count_if-in-Unknown-clause-gives
choose_by-returns-in_err-count_if-in-Unknown-clause-gives t c =
    let p = err_from_is_err_and c.from_residual-in_err-count_if-in-Unknown.result c.from_residual-in_err-count_if-in-Unknown.ensures.1 in
    rw (p.1, p.2, rw c.in-Unknown.is at c.in_ok-sign.ensures.gives) (stops (tool_fault c.in_err-count_if-in-Unknown.field-0.0) (count_if (visit_of c.args.context.now c.args.next.now.depth) c.sign.new.work) _ c.count_if.new.work (c.in_err-count_if-in-Unknown.ensures c.args.context.now))

pub choose_by-returns-in_ok-form-in-Unknown-clause-gives : goal.choose_by-returns-in_ok-form-in-Unknown-clause-gives
choose_by-returns-in_ok-form-in-Unknown-clause-gives t c =
    let part = rest_chosen c.args.next.now (where_holds (visit_of c.args.context.now c.args.next.now.depth) c.in-Unknown.condition) c.count_if.new.work in
    let made = rw (c.enter.ensures.width, c.enter.ensures.forms, c.sign.ensures.kept.width, c.sign.ensures.kept.forms) at c.choose_rest-made.ensures.gives in
    rw (rw c.in-Unknown.is at c.in_ok-sign.ensures.gives, c.in_ok-count_if-in-Unknown.ensures c.args.context.now) (rw c.in_ok-form-in-Unknown.ensures at (c.joined.ensures part c.choose_rest-made.new.work made))

pub choose_rest-returns-in_ok-opposite-in-NotBelow-clause-gives : goal.choose_rest-returns-in_ok-opposite-in-NotBelow-clause-gives
choose_rest-returns-in_ok-opposite-in-NotBelow-clause-gives t c = rw c.in-NotBelow.is (rw c.in_ok-opposite-in-NotBelow.ensures.value at c.choose_by.ensures.gives)

pub choose_rest-returns-in_ok-form-in-Nothing-clause-gives : goal.choose_rest-returns-in_ok-form-in-Nothing-clause-gives
choose_rest-returns-in_ok-form-in-Nothing-clause-gives t c =
    let r = c.args.rest.now in
    let left : r.next < length r.first.now = search rules in
    let there : r.next < length r.second.now = omega (arith, left, c.requires.rest.lists.lengths) in
    rw (c.in-Nothing.is, drop_more r.first.now r.next c.index-rest-rest.result left, drop_more r.second.now r.next c.index-rest-rest-in-Nothing.result there, c.in_ok-form-in-Nothing.ensures.listed, ← c.in_ok-form-in-Nothing.ensures.value) (c.choose_by-in-Nothing.ensures.gives)
