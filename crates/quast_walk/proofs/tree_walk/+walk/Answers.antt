use Rattle.quast_walk.proofs.Words.{◌≡◌, ◌∙◌, ◌+◌, ap, sym, arith, rules, nesting, to_z, of_z, w128, err_from_is_err_and, If, NewParm, spread_tree, where_holds, walk, tree_of, tool_fault, visit_of}
use Rattle.std.proofs.lemmas.Option.{IfSome_then}
use Rattle.quast_walk.proofs.Walking.{can_choose, sign_stops, first_walked, second_walked, both_walked, under_needs, under_stops, under_walked}
use Rattle.quast_walk.proofs.tree_walk.+walk.Goals as goal

pub walk-returns-in_err-sign-in-Select-clause-gives : goal.walk-returns-in_err-sign-in-Select-clause-gives
walk-returns-in_err-sign-in-Select-clause-gives g hyp c =
    let node : tree_of c.args.node.now ≡ If c.in-Select.form (tree_of c.in-Select.first.value) (tree_of c.in-Select.second.value) = search rules in
    let p = err_from_is_err_and c.from_residual-in_err-sign-in-Select.result c.from_residual-in_err-sign-in-Select.ensures.1 in
    rw (p.1, p.2) (sign_stops (g.W.Walker.walker c.args.walker.now) c.args.context.now c.sign.new.context c.args.depth (g.W.Walker.parameters c.args.walker.now) (g.W.Walker.between c.args.walker.now) _ c.in-Select.form c.in_ok-form-in-Select.form (tree_of c.in-Select.first.value) (tree_of c.in-Select.second.value) c.args.work.now c.sign.new.work c.sign.ensures.kept node c.in_ok-form-in-Select.ensures (tool_fault c.in_err-sign-in-Select.field-0.0) c.in_err-sign-in-Select.ensures.gives)

pub walk-returns-in-Plus-clause-gives : goal.walk-returns-in-Plus-clause-gives
walk-returns-in-Plus-clause-gives g hyp c =
    let node : tree_of c.args.node.now ≡ If c.in-Select.form (tree_of c.deref.result.now) (tree_of c.in-Select.second.value) = search rules in
    let same = first_walked (g.W.Walker.walker c.args.walker.now) c.args.context.now c.sign.new.context c.args.depth (g.W.Walker.parameters c.args.walker.now) (g.W.Walker.between c.args.walker.now) _ c.in-Select.form c.in_ok-form-in-Select.form (tree_of c.deref.result.now) (tree_of c.in-Select.second.value) c.args.work.now c.sign.new.work c.sign.ensures.kept node c.in_ok-form-in-Select.ensures (rw c.in-Plus.is at c.in_ok-sign-in-Select.ensures.gives) in
    rw same at c.walk.ensures.gives

pub walk-returns-in-Minus-clause-gives : goal.walk-returns-in-Minus-clause-gives
walk-returns-in-Minus-clause-gives g hyp c =
    let node : tree_of c.args.node.now ≡ If c.in-Select.form (tree_of c.in-Select.first.value) (tree_of c.deref-in-Minus.result.now) = search rules in
    let same = second_walked (g.W.Walker.walker c.args.walker.now) c.args.context.now c.sign.new.context c.args.depth (g.W.Walker.parameters c.args.walker.now) (g.W.Walker.between c.args.walker.now) _ c.in-Select.form c.in_ok-form-in-Select.form (tree_of c.in-Select.first.value) (tree_of c.deref-in-Minus.result.now) c.args.work.now c.sign.new.work c.sign.ensures.kept node c.in_ok-form-in-Select.ensures (rw c.in-Minus.is at c.in_ok-sign-in-Select.ensures.gives) in
    rw same at c.walk-in-Minus.ensures.gives

pub walk-returns-in-Unknown-clause-gives : goal.walk-returns-in-Unknown-clause-gives
walk-returns-in-Unknown-clause-gives g hyp c =
    let node : tree_of c.args.node.now ≡ If c.in-Select.form (tree_of c.deref-in-Unknown.result.now) (tree_of c.deref-in-Unknown-2.result.now) = search rules in
    let same = both_walked (g.W.Walker.walker c.args.walker.now) c.args.context.now c.sign.new.context c.args.depth (g.W.Walker.parameters c.args.walker.now) (g.W.Walker.between c.args.walker.now) _ c.in-Select.form c.in_ok-form-in-Select.form (tree_of c.deref-in-Unknown.result.now) (tree_of c.deref-in-Unknown-2.result.now) c.args.work.now c.sign.new.work c.sign.ensures.kept node c.in_ok-form-in-Select.ensures c.in-Unknown.condition (rw c.in-Unknown.is at c.in_ok-sign-in-Select.ensures.gives) in
    rw same at c.walk_both.ensures.gives

pub walk-go_under-requires : goal.walk-go_under-requires
walk-go_under-requires g t c =
    let node : tree_of c.args.node.now ≡ NewParm c.in-Define.form c.in-Define.den (tree_of c.in-Define.tree.value) = search rules in
    let den : to_z w128 (of_z w128 c.in-Define.den) ≡ c.in-Define.den = search rules in
    let needs = under_needs (g.W.Walker.parameters c.args.walker.now) (g.W.Walker.between c.args.walker.now) c.args.context.now.width _ c.in-Define.form c.in_ok-form-in-Define.form c.in-Define.den (to_z w128 (of_z w128 c.in-Define.den)) (tree_of c.in-Define.tree.value) node c.in_ok-form-in-Define.ensures den c.requires.tree in
    let deep = ap nesting node in
    record {
      wide = needs.0;
      divisor = needs.1;
      fits = needs.2;
      room = omega (arith, c.requires.room.spare, deep);
      shallow = omega (arith, c.requires.room.shallow, deep);
    }

pub walk-returns-in_err-go_under-in-Define-clause-gives : goal.walk-returns-in_err-go_under-in-Define-clause-gives
walk-returns-in_err-go_under-in-Define-clause-gives g hyp c =
    let node : tree_of c.args.node.now ≡ NewParm c.in-Define.form c.in-Define.den (tree_of c.in-Define.tree.value) = search rules in
    let den : to_z w128 (of_z w128 c.in-Define.den) ≡ c.in-Define.den = search rules in
    let p = err_from_is_err_and c.from_residual-in_err-go_under-in-Define.result c.from_residual-in_err-go_under-in-Define.ensures.1 in
    rw (p.1, p.2) (under_stops (g.W.Walker.walker c.args.walker.now) c.args.context.now c.args.depth (g.W.Walker.parameters c.args.walker.now) (g.W.Walker.between c.args.walker.now) _ c.in-Define.form c.in_ok-form-in-Define.form c.in-Define.den (to_z w128 (of_z w128 c.in-Define.den)) (tree_of c.in-Define.tree.value) c.args.work.now c.go_under.new.work node c.in_ok-form-in-Define.ensures den (tool_fault c.in_err-go_under-in-Define.field-0.0) c.in_err-go_under-in-Define.ensures.gives)

pub walk-returns-in_ok-go_under-in-Define-clause-gives : goal.walk-returns-in_ok-go_under-in-Define-clause-gives
walk-returns-in_ok-go_under-in-Define-clause-gives g hyp c =
    let node : tree_of c.args.node.now ≡ NewParm c.in-Define.form c.in-Define.den (tree_of c.deref-in-Define.result.now) = search rules in
    let den : to_z w128 (of_z w128 c.in-Define.den) ≡ c.in-Define.den = search rules in
    let part = walk (g.W.Walker.walker c.args.walker.now) (visit_of c.go_under.new.context (c.args.depth + 1)) (spread_tree (g.W.Walker.parameters c.args.walker.now) (g.W.Walker.between c.args.walker.now) (tree_of c.deref-in-Define.result.now)) c.go_under.new.work in
    let same = under_walked (g.W.Walker.walker c.args.walker.now) c.args.context.now c.args.depth (g.W.Walker.parameters c.args.walker.now) (g.W.Walker.between c.args.walker.now) _ c.in-Define.form c.in_ok-form-in-Define.form c.in-Define.den (to_z w128 (of_z w128 c.in-Define.den)) (tree_of c.deref-in-Define.result.now) c.args.work.now c.go_under.new.work node c.in_ok-form-in-Define.ensures den c.go_under.new.context c.in_ok-go_under-in-Define.ensures.context c.in_ok-go_under-in-Define.ensures.gives in
    rw same at (c.defined.ensures part c.walk-walked.new.work c.walk-walked.ensures.gives)

pub walk_both-returns-in_err-other-clause-gives : goal.walk_both-returns-in_err-other-clause-gives
walk_both-returns-in_err-other-clause-gives g hyp c =
    let goes_on = c.is_end.ensures.stops (sym c.is_end.ensures.value ∙ c.if-is_end.false) c.args.split.form in
    let p = err_from_is_err_and c.from_residual-in_err-other.result c.from_residual-in_err-other.ensures.1 in
    rw (p.1, p.2, c.in_ok-at_split.ensures c.args.context.now, c.in_ok-made.ensures.gives) (IfSome_then (tool_fault c.in_err-other.field-0.0) (rw (c.walk_where.ensures.kept.width, c.walk_where.ensures.kept.forms, c.in_ok-fails.ensures.value) at c.in_err-other.ensures.gives) (λ f is. goes_on _ c.walk_where.new.work c.walk_where-2.new.work f is))

pub walk_both-returns-clause-gives : goal.walk_both-returns-clause-gives
walk_both-returns-clause-gives g hyp c =
    let b = spread_tree (g.W.Walker.parameters c.args.walker.now) (g.W.Walker.between c.args.walker.now) (tree_of c.args.split.second.now) in
    let second = walk (g.W.Walker.walker c.args.walker.now) (where_holds (visit_of c.walk_where.new.context c.args.depth) c.in_ok-fails.fails) b in
    rw (c.in_ok-at_split.ensures c.args.context.now, c.in_ok-made.ensures.gives) (rw (c.walk_where.ensures.kept.width, c.walk_where.ensures.kept.forms, c.in_ok-fails.ensures.value) at (c.in_ok-whole.ensures second c.walk_where.new.work c.walk_where-2.new.work c.in_ok-other.ensures.gives))

pub walk-walk-requires : goal.walk-walk-requires
walk-walk-requires g t c κs within =
    let node : tree_of c.args.node.now ≡ If c.in-Select.form (tree_of c.deref.result.now) (tree_of c.in-Select.second.value) = search rules in
    let both = can_choose (g.W.Walker.parameters c.args.walker.now) (g.W.Walker.between c.args.walker.now) (g.W.Walker.room c.args.walker.now) c.args.depth c.args.context.now c.sign.new.context _ c.in-Select.form (tree_of c.deref.result.now) (tree_of c.in-Select.second.value) c.sign.ensures.kept node c.requires.tree c.requires.room in
    (search rules, (search rules, (search rules, (c.requires.ready, (both.first, record { spare = omega (arith, both.first_room.spare); shallow = omega (arith, both.first_room.shallow) })))))

pub walk-walk-requires-in-Minus : goal.walk-walk-requires-in-Minus
walk-walk-requires-in-Minus g t c κs within =
    let node : tree_of c.args.node.now ≡ If c.in-Select.form (tree_of c.in-Select.first.value) (tree_of c.deref-in-Minus.result.now) = search rules in
    let both = can_choose (g.W.Walker.parameters c.args.walker.now) (g.W.Walker.between c.args.walker.now) (g.W.Walker.room c.args.walker.now) c.args.depth c.args.context.now c.sign.new.context _ c.in-Select.form (tree_of c.in-Select.first.value) (tree_of c.deref-in-Minus.result.now) c.sign.ensures.kept node c.requires.tree c.requires.room in
    (search rules, (search rules, (search rules, (c.requires.ready, (both.second, record { spare = omega (arith, both.second_room.spare); shallow = omega (arith, both.second_room.shallow) })))))

pub walk-walk_both-requires : goal.walk-walk_both-requires
walk-walk_both-requires g t c κs within =
    let node : tree_of c.args.node.now ≡ If c.in-Select.form (tree_of c.deref-in-Unknown.result.now) (tree_of c.deref-in-Unknown-2.result.now) = search rules in
    let both = can_choose (g.W.Walker.parameters c.args.walker.now) (g.W.Walker.between c.args.walker.now) (g.W.Walker.room c.args.walker.now) c.args.depth c.args.context.now c.sign.new.context _ c.in-Select.form (tree_of c.deref-in-Unknown.result.now) (tree_of c.deref-in-Unknown-2.result.now) c.sign.ensures.kept node c.requires.tree c.requires.room in
    (search rules, (search rules, (search rules, (c.requires.ready, (both, search rules)))))
