use Rattle.node_turn.proofs.Words.{arith, ap, ◌≡◌, subst, common_steps, Done, turn_by, MinusAt, ScopedTree, node_of, setting_of}
use Rattle.node_rows.specs.Turns.{pivoted}
use Rattle.node_turn.proofs.turn.pivot_turn.Goals as goal

pub returns-in_err-enter_and_pivot-clause-gives : goal.returns-in_err-enter_and_pivot-clause-gives
returns-in_err-enter_and_pivot-clause-gives c = λ path.
    let fault = c.in_err-enter_and_pivot.ensures.gives (setting_of c.args.rows.now path) (node_of c.args.rows.now path) in
    record { agrees = grind (arith, common_steps, fault.agrees); counted = fault.counted }

pub returns-then-branch-clause-gives : goal.returns-then-branch-clause-gives
returns-then-branch-clause-gives c = λ path.
    let S = setting_of c.args.rows.now path in
    let N = node_of c.args.rows.now path in
    let given = c.in_ok-enter_and_pivot.ensures.gives S N in
    record { agrees = subst (λ b. turn_by S N (MinusAt c.args.r) c.args.work.now ≡ Done (pivoted N c.enter_and_pivot.new.rows.rows b) c.enter_and_pivot.new.work) c.if-branch.true given.agrees; counted = given.counted }

pub returns-else-branch-clause-gives : goal.returns-else-branch-clause-gives
returns-else-branch-clause-gives c = λ path.
    let S = setting_of c.args.rows.now path in
    let N = node_of c.args.rows.now path in
    let bottom = ap (λ (q : ScopedTree). q.tree) c.bottom.ensures in
    let given = c.in_ok-enter_and_pivot.ensures.gives S N in
    record { agrees = rw bottom (subst (λ b. turn_by S N (MinusAt c.args.r) c.args.work.now ≡ Done (pivoted N c.enter_and_pivot.new.rows.rows b) c.enter_and_pivot.new.work) c.if-branch.false given.agrees); counted = given.counted }
