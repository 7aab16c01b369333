use Rattle.leaf_check.proofs.Words.{arith, rules, sym, ◌∙◌, refl, get_or, pos, w128, to_z-of_z, err_from_is_err_and}
use Rattle.leaf_check.proofs.Smaller.{put_refused, put_listed_end, put_end}
use Rattle.leaf_check.proofs.goals.put_in.Goals as goal

pub returns-in_err-add_component-clause-listed : goal.returns-in_err-add_component-clause-listed
returns-in_err-add_component-clause-listed c =
    let p = err_from_is_err_and c.from_residual.result c.from_residual.ensures.1 in
    let unfit = c.in_err-add_component.ensures.listed refl in
    let read = to_z-of_z w128 (get_or c.args.row.now c.loop-i.i (pos 0)) (search rules) in
    let e = put_refused c.loop-i.sum c.args.row.now c.args.components.now c.loop-i.i c.index-components-i.result c.args.sum.now (omega arith) (omega arith) c.loop-i.invariant.0 (rw (read, c.index-components-i.is) at unfit) in
    rw p.1 (λ o. e)

pub returns-clause-listed : goal.returns-clause-listed
returns-clause-listed c = put_listed_end c.loop-i.sum c.args.sum.now c.args.row.now c.args.components.now c.loop-i.i (omega arith) c.loop-i.invariant.0

pub returns-clause-ok : goal.returns-clause-ok
returns-clause-ok c = sym (put_end c.loop-i.sum c.args.row.now c.args.components.now c.loop-i.i (omega arith)) ∙ c.loop-i.invariant.1
