use Rattle.certificate_check.proofs.Words.{◌≡◌, ◌+◌, ◌∙◌, ap, rules, true, [], ◌∷◌, ◌++◌, take, IsTrue, IsFalse, err_from_is_err_and, all_fit, opposite, constant, Quotient, lower_bound, upper_bound, tree_of, PathForms}
use Rattle.affine_forms.specs.Checks.{is_form_overflow}
use Rattle.leaf_check.specs.Faults.{fault_of}
use Rattle.certificate_check.proofs.Walks.{back_is, back_within, choice_stop, choice_place, choice_next, choice_unfit, definition_place, definition_next, definition_stop, definition_unfit, if_some_along}
use Rattle.certificate_check.proofs.walk.TreeCheck.+check_node.Goals as goal

pub returns-in_err-second-in-Select-clause-gives : goal.returns-in_err-second-in-Select-clause-gives
returns-in_err-second-in-Select-clause-gives t c =
    let p = err_from_is_err_and c.from_residual-in_err-second-in-Select.result c.from_residual-in_err-second-in-Select.ensures.1 in
    rw (p.1, p.2) (choice_stop c.args.self.now c.args.l c.args.path.now (tree_of c.args.node.now) c.requires c.in-Select.v (tree_of c.in-Select.a.value) (tree_of c.in-Select.b.value) (ap tree_of c.in-Select.is) c.push.new.self c.in_ok-push-in-Select.ensures.ok (fault_of c.in_err-second-in-Select.field-0.0) (rw c.deref.ensures at c.in_err-second-in-Select.ensures.gives))

pub go_back-requires : goal.go_back-requires
go_back-requires t c = back_within c.args.path.now c.check_node.new.path (c.in-Select.v ∷ []) c.len-n.result c.scope-scope.result (ap (λ (q : PathForms). q.forms) (c.in_ok-second-in-Select.ensures.path ∙ c.in_ok-push-in-Select.ensures.ok)) c.len-n.ensures.value c.scope-scope.ensures c.len-n.ensures.within

pub refusal_at-requires : goal.refusal_at-requires
refusal_at-requires t c = choice_place c.args.self.now c.args.l c.args.path.now (tree_of c.args.node.now) c.requires c.in-Select.v (tree_of c.in-Select.a.value) (tree_of c.in-Select.b.value) (ap tree_of c.in-Select.is) c.push.new.self c.in_ok-push-in-Select.ensures.ok c.in_ok-second-in-Select.second (rw c.deref.ensures at c.in_ok-second-in-Select.ensures.next)

pub returns-in-Err-clause-gives : goal.returns-in-Err-clause-gives
returns-in-Err-clause-gives t c =
    choice_unfit c.args.self.now c.args.l c.args.path.now (tree_of c.args.node.now) c.requires c.in-Select.v (tree_of c.in-Select.a.value) (tree_of c.in-Select.b.value) (ap tree_of c.in-Select.is) c.push.new.self c.in_ok-push-in-Select.ensures.ok (is_form_overflow c.in-Err.refusal) (fault_of c.refusal_at.result) c.in_ok-second-in-Select.second (rw c.deref.ensures at c.in_ok-second-in-Select.ensures.next) (rw c.deref.ensures at c.in_ok-second-in-Select.ensures.gives) c.in-Err.ensures.listed (rw c.deref-in-Err.ensures at c.refusal_at.ensures)

pub returns-in_err-next-in-Select-clause-gives : goal.returns-in_err-next-in-Select-clause-gives
returns-in_err-next-in-Select-clause-gives t c =
    let p = err_from_is_err_and c.from_residual-in_err-next-in-Select.result c.from_residual-in_err-next-in-Select.ensures.1 in
    let back = back_is c.args.path.now c.check_node.new.path (c.in-Select.v ∷ []) c.len-n.result c.scope-scope.result (ap (λ (q : PathForms). q.forms) (c.in_ok-second-in-Select.ensures.path ∙ c.in_ok-push-in-Select.ensures.ok)) c.len-n.ensures.value c.scope-scope.ensures in
    let gone : c.go_back.new.self ≡ record { scope = c.scope-scope.result; forms = take c.len-n.result c.check_node.new.path.forms } = search rules in
    let pushed : c.push_opposite.new.self ≡ record c.go_back.new.self { forms = c.go_back.new.self.forms ++ opposite c.in-Select.v ∷ [] } = search rules in
    let second = pushed ∙ ap (λ (q : PathForms). let r : PathForms = record q { forms = q.forms ++ opposite c.in-Select.v ∷ [] } in r) (gone ∙ back) in
    let same = choice_next c.args.self.now c.args.l c.args.path.now (tree_of c.args.node.now) c.requires c.in-Select.v (tree_of c.in-Select.a.value) (tree_of c.in-Select.b.value) (ap tree_of c.in-Select.is) c.push.new.self c.in_ok-push-in-Select.ensures.ok c.in_ok-second-in-Select.second c.push_opposite.new.self (rw c.deref.ensures at c.in_ok-second-in-Select.ensures.next) second (rw c.deref.ensures at c.in_ok-second-in-Select.ensures.gives) (search rules) in
    rw (p.1, p.2) (if_some_along (fault_of c.in_err-next-in-Select.field-0.0) _ _ same (rw c.deref-in-Select.ensures at c.in_err-next-in-Select.ensures.gives))

pub refusal_at-requires-in-Err-push_bounds : goal.refusal_at-requires-in-Err-push_bounds
refusal_at-requires-in-Err-push_bounds t c = definition_place c.args.self.now c.args.l c.args.path.now (tree_of c.args.node.now) c.requires c.in-Define.v c.in-Define.d (tree_of c.in-Define.a.value) (ap tree_of c.in-Define.is)

pub returns-in-Err-push_bounds-clause-gives : goal.returns-in-Err-push_bounds-clause-gives
returns-in-Err-push_bounds-clause-gives t c =
    let k : Quotient = record { form = c.in-Define.v; den = c.in-Define.d } in
    let unfit : IsTrue (is_form_overflow c.in-Err-push_bounds.refusal) → IsFalse (all_fit (constant (upper_bound (c.args.path.now.scope + 1) c.args.path.now.scope k) ∷ [])) = search rules in
    definition_unfit c.args.self.now c.args.l c.args.path.now (tree_of c.args.node.now) c.requires c.in-Define.v c.in-Define.d (tree_of c.in-Define.a.value) (ap tree_of c.in-Define.is) (is_form_overflow c.in-Err-push_bounds.refusal) (fault_of c.refusal_at-in-Err-push_bounds.result) unfit (rw c.deref-in-Err-push_bounds.ensures at c.refusal_at-in-Err-push_bounds.ensures)

pub returns-in_err-next-in-Define-clause-gives : goal.returns-in_err-next-in-Define-clause-gives
returns-in_err-next-in-Define-clause-gives t c =
    let p = err_from_is_err_and c.from_residual-in_err-next-in-Define.result c.from_residual-in_err-next-in-Define.ensures.1 in
    let k : Quotient = record { form = c.in-Define.v; den = c.in-Define.d } in
    let s = c.args.path.now.scope in
    let fits : all_fit (constant (upper_bound (s + 1) s k) ∷ []) ≡ true = search rules in
    let inner : c.push_bounds.new.self ≡ record { scope = s + 1; forms = c.args.path.now.forms ++ lower_bound (s + 1) s k ∷ upper_bound (s + 1) s k ∷ [] } = search rules in
    rw (p.1, p.2) (definition_stop c.args.self.now c.args.l c.args.path.now (tree_of c.args.node.now) c.requires c.in-Define.v c.in-Define.d (tree_of c.in-Define.a.value) (ap tree_of c.in-Define.is) c.push_bounds.new.self (fault_of c.in_err-next-in-Define.field-0.0) inner fits (rw c.deref-in-Define.ensures at c.in_err-next-in-Define.ensures.gives))

pub go_back-requires-in-Select : goal.go_back-requires-in-Select
go_back-requires-in-Select t c =
    let back = back_is c.args.path.now c.check_node.new.path (c.in-Select.v ∷ []) c.len-n.result c.scope-scope.result (ap (λ (q : PathForms). q.forms) (c.in_ok-second-in-Select.ensures.path ∙ c.in_ok-push-in-Select.ensures.ok)) c.len-n.ensures.value c.scope-scope.ensures in
    let gone : c.go_back.new.self ≡ record { scope = c.scope-scope.result; forms = take c.len-n.result c.check_node.new.path.forms } = search rules in
    let pushed : c.push_opposite.new.self ≡ record c.go_back.new.self { forms = c.go_back.new.self.forms ++ opposite c.in-Select.v ∷ [] } = search rules in
    let second = pushed ∙ ap (λ (q : PathForms). let r : PathForms = record q { forms = q.forms ++ opposite c.in-Select.v ∷ [] } in r) (gone ∙ back) in
    back_within c.args.path.now c.check_node-in-Select.new.path (opposite c.in-Select.v ∷ []) c.len-n.result c.scope-scope.result (ap (λ (q : PathForms). q.forms) (c.in_ok-next-in-Select.ensures.path ∙ second)) c.len-n.ensures.value c.scope-scope.ensures c.len-n.ensures.within

pub go_back-requires-in-Define : goal.go_back-requires-in-Define
go_back-requires-in-Define t c =
    let k : Quotient = record { form = c.in-Define.v; den = c.in-Define.d } in
    let s = c.args.path.now.scope in
    let inner : c.push_bounds.new.self ≡ record { scope = s + 1; forms = c.args.path.now.forms ++ lower_bound (s + 1) s k ∷ upper_bound (s + 1) s k ∷ [] } = search rules in
    back_within c.args.path.now c.check_node-in-Define.new.path (lower_bound (s + 1) s k ∷ upper_bound (s + 1) s k ∷ []) c.len-n-in-Define.result c.scope-scope-in-Define.result (ap (λ (q : PathForms). q.forms) (c.in_ok-next-in-Define.ensures.path ∙ inner)) c.len-n-in-Define.ensures.value c.scope-scope-in-Define.ensures c.len-n-in-Define.ensures.within

pub returns-in_ok-next-in-Select-clause-gives : goal.returns-in_ok-next-in-Select-clause-gives
returns-in_ok-next-in-Select-clause-gives t c =
    let back = back_is c.args.path.now c.check_node.new.path (c.in-Select.v ∷ []) c.len-n.result c.scope-scope.result (ap (λ (q : PathForms). q.forms) (c.in_ok-second-in-Select.ensures.path ∙ c.in_ok-push-in-Select.ensures.ok)) c.len-n.ensures.value c.scope-scope.ensures in
    let gone : c.go_back.new.self ≡ record { scope = c.scope-scope.result; forms = take c.len-n.result c.check_node.new.path.forms } = search rules in
    let pushed : c.push_opposite.new.self ≡ record c.go_back.new.self { forms = c.go_back.new.self.forms ++ opposite c.in-Select.v ∷ [] } = search rules in
    let second = pushed ∙ ap (λ (q : PathForms). let r : PathForms = record q { forms = q.forms ++ opposite c.in-Select.v ∷ [] } in r) (gone ∙ back) in
    choice_next c.args.self.now c.args.l c.args.path.now (tree_of c.args.node.now) c.requires c.in-Select.v (tree_of c.in-Select.a.value) (tree_of c.in-Select.b.value) (ap tree_of c.in-Select.is) c.push.new.self c.in_ok-push-in-Select.ensures.ok c.in_ok-second-in-Select.second c.push_opposite.new.self (rw c.deref.ensures at c.in_ok-second-in-Select.ensures.next) second (rw c.deref.ensures at c.in_ok-second-in-Select.ensures.gives) (search rules)
    ∙ rw c.deref-in-Select.ensures at c.in_ok-next-in-Select.ensures.gives

pub returns-in_ok-next-in-Define-clause-gives : goal.returns-in_ok-next-in-Define-clause-gives
returns-in_ok-next-in-Define-clause-gives t c =
    let k : Quotient = record { form = c.in-Define.v; den = c.in-Define.d } in
    let s = c.args.path.now.scope in
    let fits : all_fit (constant (upper_bound (s + 1) s k) ∷ []) ≡ true = search rules in
    let inner : c.push_bounds.new.self ≡ record { scope = s + 1; forms = c.args.path.now.forms ++ lower_bound (s + 1) s k ∷ upper_bound (s + 1) s k ∷ [] } = search rules in
    definition_next c.args.self.now c.args.l c.args.path.now (tree_of c.args.node.now) c.requires c.in-Define.v c.in-Define.d (tree_of c.in-Define.a.value) (ap tree_of c.in-Define.is) c.push_bounds.new.self inner fits
    ∙ rw c.deref-in-Define.ensures at c.in_ok-next-in-Define.ensures.gives
