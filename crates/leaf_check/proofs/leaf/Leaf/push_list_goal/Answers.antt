use Rattle.leaf_check.proofs.Words.{◌≡◌, ap, ◌-◌, arith, rules, length, case_of}
use Rattle.leaf_check.proofs.Owned.{own_row, own_sign, own_least}
use Rattle.leaf_check.proofs.leaf.Leaf.push_list_goal.Goals as goal

pub returns-clause-listed : goal.returns-clause-listed
returns-clause-listed c =
    let same : length c.rows-rows.result.now ≡ length c.args.self.now.problem.now.rows = ap length c.rows-rows.ensures.value in
    rw (own_least c.args.self.now.problem.now (case_of c.args.self.now) c.args.components.now c.args.r (c.args.r - length c.args.self.now.problem.now.rows - length c.args.components.now) c.split_at.result.0.now (omega arith) (omega arith) (search rules))
    c.push_least_goal.ensures.listed

pub returns-clause-pushed : goal.returns-clause-pushed
returns-clause-pushed c =
    let same : length c.rows-rows.result.now ≡ length c.args.self.now.problem.now.rows = ap length c.rows-rows.ensures.value in
    rw (own_least c.args.self.now.problem.now (case_of c.args.self.now) c.args.components.now c.args.r (c.args.r - length c.args.self.now.problem.now.rows - length c.args.components.now) c.split_at.result.0.now (omega arith) (omega arith) (search rules))
    c.push_least_goal.ensures.pushed

pub overflow_sub-sign : goal.overflow_sub-sign
overflow_sub-sign c = omega (arith, ap length c.rows-rows.ensures.value)

pub overflow_sub-sign-2 : goal.overflow_sub-sign-2
overflow_sub-sign-2 c = omega arith

pub overflow_add-sign : goal.overflow_add-sign
overflow_add-sign c = omega (arith, ap length c.rows-rows.ensures.value, c.requires.place)

pub split_at-requires : goal.split_at-requires
split_at-requires c = omega (arith, ap length c.rows-rows.ensures.value, c.requires.place)

pub push_least_goal-requires-clause-leaf : goal.push_least_goal-requires-clause-leaf
push_least_goal-requires-clause-leaf c = c.requires.leaf

pub push_least_goal-requires-clause-width : goal.push_least_goal-requires-clause-width
push_least_goal-requires-clause-width c = c.requires.width

pub returns-then-r-rows-clause-listed : goal.returns-then-r-rows-clause-listed
returns-then-r-rows-clause-listed c =
    let same = c.rows-rows.ensures.value in
    rw (own_row c.args.self.now.problem.now (case_of c.args.self.now) c.args.components.now c.args.r c.index-rows-r.result (omega (arith, ap length same)) (rw same at c.index-rows-r.is)) c.push_row_goal.ensures.listed

pub returns-then-sign-components-clause-listed : goal.returns-then-sign-components-clause-listed
returns-then-sign-components-clause-listed c = rw (own_sign c.args.self.now.problem.now (case_of c.args.self.now) c.args.components.now c.args.r (c.args.r - length c.rows-rows.result.now) c.index-components-sign.result (omega (arith, ap length c.rows-rows.ensures.value)) (omega arith) c.index-components-sign.is) c.push_sign_goal.ensures.listed

pub returns-then-r-rows-clause-pushed : goal.returns-then-r-rows-clause-pushed
returns-then-r-rows-clause-pushed c =
    let same = c.rows-rows.ensures.value in
    rw (own_row c.args.self.now.problem.now (case_of c.args.self.now) c.args.components.now c.args.r c.index-rows-r.result (omega (arith, ap length same)) (rw same at c.index-rows-r.is)) c.push_row_goal.ensures.pushed

pub returns-then-sign-components-clause-pushed : goal.returns-then-sign-components-clause-pushed
returns-then-sign-components-clause-pushed c = rw (own_sign c.args.self.now.problem.now (case_of c.args.self.now) c.args.components.now c.args.r (c.args.r - length c.rows-rows.result.now) c.index-components-sign.result (omega (arith, ap length c.rows-rows.ensures.value)) (omega arith) c.index-components-sign.is) c.push_sign_goal.ensures.pushed
