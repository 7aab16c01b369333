use Rattle.solve_certified.proofs.Words.{rules, arith, ◌≡◌, ◌∙◌, ap, ◌+◌, [], ◌∷◌, ◌++◌, IsFalse, err_from_is_err_and, opposite, constant, all_fit, Quotient, upper_bound, size, is_form_overflow, run_fault, tree_of, TrailForms, below_quotient}
use Rattle.std.proofs.Common.{IsTrue}
use Rattle.solve_certified.proofs.AtNode.{select_stop, select_unfit, select_next, select_later, define_unfit, define_next, define_later, select_at, below_at, select_back}
use Rattle.solve_certified.proofs.walk.Walk.+make_node.Goals as goal

pub returns-in_err-make_node-in-Select-clause-gives : goal.returns-in_err-make_node-in-Select-clause-gives
returns-in_err-make_node-in-Select-clause-gives t c =
    let P = c.args.self.now.problem.now in
    let q = c.args.trail.now in
    let T = tree_of c.args.node.now in
    let a = tree_of c.in-Select.a.value in
    let b = tree_of c.in-Select.b.value in
    let is = ap tree_of c.in-Select.is in
    let p = err_from_is_err_and c.from_residual-in_err-make_node-in-Select.result c.from_residual-in_err-make_node-in-Select.ensures.1 in
    rw (p.1, p.2) (select_stop P q c.args.making.now.certificate c.args.work.now T c.in-Select.v a b is c.push.new.self c.in_ok-push-in-Select.ensures (run_fault c.in_err-make_node-in-Select.field-0.0) c.make_node.new.work (rw c.deref.ensures at c.in_err-make_node-in-Select.ensures.gives))

pub returns-in_err-push_opposite-in-Select-clause-gives : goal.returns-in_err-push_opposite-in-Select-clause-gives
returns-in_err-push_opposite-in-Select-clause-gives t c =
    let P = c.args.self.now.problem.now in
    let q = c.args.trail.now in
    let T = tree_of c.args.node.now in
    let a = tree_of c.in-Select.a.value in
    let b = tree_of c.in-Select.b.value in
    let is = ap tree_of c.in-Select.is in
    let p = err_from_is_err_and c.from_residual-in_err-push_opposite-in-Select.result c.from_residual-in_err-push_opposite-in-Select.ensures.1 in
    rw (p.1, p.2) (select_unfit P q c.args.making.now.certificate c.args.work.now T c.in-Select.v a b is c.push.new.self c.in_ok-push-in-Select.ensures c.make_node.new.making.certificate c.make_node.new.work (rw c.deref.ensures at c.in_ok-make_node-in-Select.ensures.gives)
    c.in_err-push_opposite-in-Select.field-0.0 c.requires.at.some c.requires.at.whole c.in_err-push_opposite-in-Select.ensures.listed)

pub make_node-requires-in-Select : goal.make_node-requires-in-Select
make_node-requires-in-Select t c =
    let P = c.args.self.now.problem.now in
    let q = c.args.trail.now in
    let T = tree_of c.args.node.now in
    let a = tree_of c.in-Select.a.value in
    let b = tree_of c.in-Select.b.value in
    let is = ap tree_of c.in-Select.is in
    let back = select_back q c.make_node.new.trail (c.in-Select.v ∷ []) c.mark-mark.result.scope c.mark-mark.result.forms c.mark-mark.result.quotients (c.in_ok-make_node-in-Select.ensures.trail ∙ c.in_ok-push-in-Select.ensures) c.mark-mark.ensures.scope c.mark-mark.ensures.forms c.mark-mark.ensures.quotients in
    let up = c.in_ok-push_opposite-in-Select.ensures.ok ∙ ap (λ (x : TrailForms). let r : TrailForms = record x { forms = x.forms ++ opposite c.in-Select.v ∷ [] } in r) (c.back_to.ensures ∙ back) in
    let larger : size T ≡ 1 + size a + size b = ap size is in
    let second : tree_of c.deref-in-Select.result.now ≡ b = ap tree_of c.deref-in-Select.ensures in
    rw second (omega arith, ((select_at P q c.push_opposite.new.self T c.in-Select.v (opposite c.in-Select.v) a b c.requires.at is up).1, c.in_ok-make_node-in-Select.ensures.format))

pub returns-in_err-make_node-in-Select-2-clause-gives : goal.returns-in_err-make_node-in-Select-2-clause-gives
returns-in_err-make_node-in-Select-2-clause-gives t c =
    let P = c.args.self.now.problem.now in
    let q = c.args.trail.now in
    let T = tree_of c.args.node.now in
    let a = tree_of c.in-Select.a.value in
    let b = tree_of c.in-Select.b.value in
    let is = ap tree_of c.in-Select.is in
    let back = select_back q c.make_node.new.trail (c.in-Select.v ∷ []) c.mark-mark.result.scope c.mark-mark.result.forms c.mark-mark.result.quotients (c.in_ok-make_node-in-Select.ensures.trail ∙ c.in_ok-push-in-Select.ensures) c.mark-mark.ensures.scope c.mark-mark.ensures.forms c.mark-mark.ensures.quotients in
    let up = c.in_ok-push_opposite-in-Select.ensures.ok ∙ ap (λ (x : TrailForms). let r : TrailForms = record x { forms = x.forms ++ opposite c.in-Select.v ∷ [] } in r) (c.back_to.ensures ∙ back) in
    let p = err_from_is_err_and c.from_residual-in_err-make_node-in-Select-2.result c.from_residual-in_err-make_node-in-Select-2.ensures.1 in
    rw (p.1, p.2) (select_later P q c.args.making.now.certificate c.args.work.now T c.in-Select.v a b is c.push.new.self c.in_ok-push-in-Select.ensures c.make_node.new.making.certificate c.make_node.new.work (rw c.deref.ensures at c.in_ok-make_node-in-Select.ensures.gives) c.push_opposite.new.self up c.in_ok-push_opposite-in-Select.ensures.listed
    (run_fault c.in_err-make_node-in-Select-2.field-0.0) c.make_node-in-Select.new.work (rw c.deref-in-Select.ensures at c.in_err-make_node-in-Select-2.ensures.gives))

pub returns-in_err-push_quotient-in-Define-clause-gives : goal.returns-in_err-push_quotient-in-Define-clause-gives
returns-in_err-push_quotient-in-Define-clause-gives t c =
    let P = c.args.self.now.problem.now in
    let q = c.args.trail.now in
    let T = tree_of c.args.node.now in
    let a = tree_of c.in-Define.a.value in
    let is = ap tree_of c.in-Define.is in
    let k : Quotient = record { form = c.in-Define.v; den = c.in-Define.d } in
    let unfit : IsTrue (is_form_overflow c.in_err-push_quotient-in-Define.field-0.0) → IsFalse (all_fit (constant (upper_bound (q.scope + 1) q.scope k) ∷ [])) = search rules in
    let p = err_from_is_err_and c.from_residual-in_err-push_quotient-in-Define.result c.from_residual-in_err-push_quotient-in-Define.ensures.1 in
    rw (p.1, p.2) (define_unfit P q c.args.making.now.certificate c.args.work.now T c.in-Define.v c.in-Define.d a is c.in_err-push_quotient-in-Define.field-0.0 c.requires.at.some c.requires.at.whole unfit)

pub make_node-requires-in-Define : goal.make_node-requires-in-Define
make_node-requires-in-Define t c =
    let P = c.args.self.now.problem.now in
    let q = c.args.trail.now in
    let T = tree_of c.args.node.now in
    let a = tree_of c.in-Define.a.value in
    let is = ap tree_of c.in-Define.is in
    let down : c.push_quotient.new.self ≡ below_quotient q c.in-Define.v c.in-Define.d = search rules in
    let larger : size T ≡ 1 + size a = ap size is in
    let inner : tree_of c.deref-in-Define.result.now ≡ a = ap tree_of c.deref-in-Define.ensures in
    rw inner (omega arith, (below_at P q c.push_quotient.new.self T c.in-Define.v c.in-Define.d a c.requires.at is down, c.requires.format))

pub returns-in_err-make_node-in-Define-clause-gives : goal.returns-in_err-make_node-in-Define-clause-gives
returns-in_err-make_node-in-Define-clause-gives t c =
    let P = c.args.self.now.problem.now in
    let q = c.args.trail.now in
    let T = tree_of c.args.node.now in
    let a = tree_of c.in-Define.a.value in
    let is = ap tree_of c.in-Define.is in
    let down : c.push_quotient.new.self ≡ below_quotient q c.in-Define.v c.in-Define.d = search rules in
    let k : Quotient = record { form = c.in-Define.v; den = c.in-Define.d } in
    let fit : IsTrue (all_fit (constant (upper_bound (q.scope + 1) q.scope k) ∷ [])) = search rules in
    let p = err_from_is_err_and c.from_residual-in_err-make_node-in-Define.result c.from_residual-in_err-make_node-in-Define.ensures.1 in
    rw (p.1, p.2) (define_later P q c.args.making.now.certificate c.args.work.now T c.in-Define.v c.in-Define.d a is c.push_quotient.new.self down fit
    (run_fault c.in_err-make_node-in-Define.field-0.0) c.make_node-in-Define.new.work (rw c.deref-in-Define.ensures at c.in_err-make_node-in-Define.ensures.gives))

pub returns-in-Leaf-clause-gives : goal.returns-in-Leaf-clause-gives
returns-in-Leaf-clause-gives t c =
    rw (ap tree_of c.in-Leaf.is) (rw c.as_slice.ensures at c.make_leaf-in-Leaf.ensures.gives)

pub returns-in_ok-make_node-in-Select-2-clause-gives : goal.returns-in_ok-make_node-in-Select-2-clause-gives
returns-in_ok-make_node-in-Select-2-clause-gives t c =
    let P = c.args.self.now.problem.now in
    let q = c.args.trail.now in
    let T = tree_of c.args.node.now in
    let a = tree_of c.in-Select.a.value in
    let b = tree_of c.in-Select.b.value in
    let is = ap tree_of c.in-Select.is in
    let back = select_back q c.make_node.new.trail (c.in-Select.v ∷ []) c.mark-mark.result.scope c.mark-mark.result.forms c.mark-mark.result.quotients (c.in_ok-make_node-in-Select.ensures.trail ∙ c.in_ok-push-in-Select.ensures) c.mark-mark.ensures.scope c.mark-mark.ensures.forms c.mark-mark.ensures.quotients in
    let up = c.in_ok-push_opposite-in-Select.ensures.ok ∙ ap (λ (x : TrailForms). let r : TrailForms = record x { forms = x.forms ++ opposite c.in-Select.v ∷ [] } in r) (c.back_to.ensures ∙ back) in
    select_next P q c.args.making.now.certificate c.args.work.now T c.in-Select.v a b is c.push.new.self c.in_ok-push-in-Select.ensures c.make_node.new.making.certificate c.make_node.new.work (rw c.deref.ensures at c.in_ok-make_node-in-Select.ensures.gives) c.push_opposite.new.self up c.in_ok-push_opposite-in-Select.ensures.listed
    ∙ rw c.deref-in-Select.ensures at c.in_ok-make_node-in-Select-2.ensures.gives

pub returns-in_ok-make_node-in-Define-clause-gives : goal.returns-in_ok-make_node-in-Define-clause-gives
returns-in_ok-make_node-in-Define-clause-gives t c =
    let P = c.args.self.now.problem.now in
    let q = c.args.trail.now in
    let T = tree_of c.args.node.now in
    let a = tree_of c.in-Define.a.value in
    let is = ap tree_of c.in-Define.is in
    let down : c.push_quotient.new.self ≡ below_quotient q c.in-Define.v c.in-Define.d = search rules in
    let k : Quotient = record { form = c.in-Define.v; den = c.in-Define.d } in
    let fit : IsTrue (all_fit (constant (upper_bound (q.scope + 1) q.scope k) ∷ [])) = search rules in
    define_next P q c.args.making.now.certificate c.args.work.now T c.in-Define.v c.in-Define.d a is c.push_quotient.new.self down fit
    ∙ rw c.deref-in-Define.ensures at c.in_ok-make_node-in-Define.ensures.gives

pub make_node-requires : goal.make_node-requires
make_node-requires t c =
    let T = tree_of c.args.node.now in
    let a = tree_of c.in-Select.a.value in
    let b = tree_of c.in-Select.b.value in
    let is = ap tree_of c.in-Select.is in
    let larger : size T ≡ 1 + size a + size b = ap size is in
    let first : tree_of c.deref.result.now ≡ a = ap tree_of c.deref.ensures in
    rw first (omega arith, ((select_at c.args.self.now.problem.now c.args.trail.now c.push.new.self T c.in-Select.v c.in-Select.v a b c.requires.at is c.in_ok-push-in-Select.ensures).0, c.requires.format))

pub returns-in_ok-make_node-in-Select-2-clause-trail : goal.returns-in_ok-make_node-in-Select-2-clause-trail
returns-in_ok-make_node-in-Select-2-clause-trail t c =
    let q = c.args.trail.now in
    let m = c.mark-mark in
    let back = select_back q c.make_node.new.trail (c.in-Select.v ∷ []) m.result.scope m.result.forms m.result.quotients (c.in_ok-make_node-in-Select.ensures.trail ∙ c.in_ok-push-in-Select.ensures) m.ensures.scope m.ensures.forms m.ensures.quotients in
    let up = c.in_ok-push_opposite-in-Select.ensures.ok ∙ ap (λ (x : TrailForms). let r : TrailForms = record x { forms = x.forms ++ opposite c.in-Select.v ∷ [] } in r) (c.back_to.ensures ∙ back) in
    c.back_to-in-Select.ensures ∙ select_back q c.make_node-in-Select.new.trail (opposite c.in-Select.v ∷ []) m.result.scope m.result.forms m.result.quotients (c.in_ok-make_node-in-Select-2.ensures.trail ∙ up) m.ensures.scope m.ensures.forms m.ensures.quotients
