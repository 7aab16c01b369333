use Rattle.quast_text.proofs.Words.{◌≡◌, ◌+◌, ap, refl, rules, arith, Ok, err_from_is_err_and, Bottom, Ends, Chooses, Defines, RightParen, expect, tree, ScopedTree, text_fault, opening, choice_at, definition_at, define_at, If, NewParm, read_form, fault_of, refused_by}
use Rattle.quast_text.proofs.TreeSteps.{tree_refused, tree_bottom, tree_list, tree_choice, tree_define, read_later}
use Rattle.quast_text.proofs.tree.+tree.Goals as goal

pub read_tree-returns-in_err-head-clause-reads : goal.read_tree-returns-in_err-head-clause-reads
read_tree-returns-in_err-head-clause-reads t c =
    let p = err_from_is_err_and c.from_residual.result c.from_residual.ensures.1 in
    rw (p.1, p.2) (tree_refused (text_fault c.in_err-head.field-0.0) c.args.bytes.now c.args.room c.args.width c.args.place c.in_err-head.ensures)

pub read_tree-returns-in-Ends-clause-reads : goal.read_tree-returns-in-Ends-clause-reads
read_tree-returns-in-Ends-clause-reads t c =
    let opened : opening c.args.bytes.now c.args.place ≡ Ok (Ends, c.in_ok-head.at) = search rules in
    let bottom : c.bottom.result.tree ≡ Bottom = ap (λ (q : ScopedTree). q.tree) c.bottom.ensures in
    (rw bottom (tree_bottom c.args.bytes.now c.args.room c.args.width c.args.place c.in_ok-head.at opened), search rules, search rules)

pub read_tree-returns-in-Lists-clause-reads : goal.read_tree-returns-in-Lists-clause-reads
read_tree-returns-in-Lists-clause-reads t c =
    read_later _ text_fault c.args.bytes.now c.args.place c.in_ok-head.at c.read_list.result _ _ (search rules)
    (tree_list c.args.bytes.now c.args.room c.args.width c.args.place c.in_ok-head.at (search rules)) c.read_list.ensures.reads

pub read_tree-returns-else-room-eq0-clause-reads : goal.read_tree-returns-else-room-eq0-clause-reads
read_tree-returns-else-room-eq0-clause-reads t c =
    let opened : opening c.args.bytes.now c.args.place ≡ Ok (Chooses, c.in_ok-head.at) = search rules in
    read_later _ text_fault c.args.bytes.now c.args.place c.in_ok-head.at c.read_choice.result _ _ (search rules)
    (tree_choice c.args.bytes.now c.args.room c.args.width c.args.place c.in_ok-head.at (omega arith) opened) c.read_choice.ensures.reads

pub read_tree-returns-else-room-eq0-2-clause-reads : goal.read_tree-returns-else-room-eq0-2-clause-reads
read_tree-returns-else-room-eq0-2-clause-reads t c =
    let opened : opening c.args.bytes.now c.args.place ≡ Ok (Defines, c.in_ok-head.at) = search rules in
    read_later _ text_fault c.args.bytes.now c.args.place c.in_ok-head.at c.read_new_parameter.result _ _ (search rules)
    (tree_define c.args.bytes.now c.args.room c.args.width c.args.place c.in_ok-head.at (omega arith) opened) c.read_new_parameter.ensures.reads

pub read_choice-returns-in_err-v-clause-reads : goal.read_choice-returns-in_err-v-clause-reads
unfolding choice_at
read_choice-returns-in_err-v-clause-reads t c =
    let p = err_from_is_err_and c.from_residual.result c.from_residual.ensures.1 in
    rw (p.1, p.2) (refused_by (text_fault c.in_err-v.field-0.0) (read_form c.args.bytes.now c.args.width c.args.place) (choice_at c.args.bytes.now c.args.room c.args.width c.args.place)
    (λ f e. rw e refl) c.in_err-v.ensures.reads)

pub read_choice-returns-in_err-a-clause-reads : goal.read_choice-returns-in_err-a-clause-reads
unfolding choice_at
read_choice-returns-in_err-a-clause-reads t c =
    let p = err_from_is_err_and c.from_residual-in_err-a.result c.from_residual-in_err-a.ensures.1 in
    rw (p.1, p.2) (refused_by (text_fault c.in_err-a.field-0.0) (tree c.args.bytes.now c.args.room c.args.width c.in_ok-v.at) (choice_at c.args.bytes.now c.args.room c.args.width c.args.place)
    (λ f e. rw (c.in_ok-v.ensures.reads.0, e) refl) c.in_err-a.ensures.reads)

pub read_choice-returns-in_err-b-clause-reads : goal.read_choice-returns-in_err-b-clause-reads
unfolding choice_at
read_choice-returns-in_err-b-clause-reads t c =
    let p = err_from_is_err_and c.from_residual-in_err-b.result c.from_residual-in_err-b.ensures.1 in
    rw (p.1, p.2) (refused_by (text_fault c.in_err-b.field-0.0) (tree c.args.bytes.now c.args.room c.args.width c.in_ok-a.at) (choice_at c.args.bytes.now c.args.room c.args.width c.args.place)
    (λ f e. rw (c.in_ok-v.ensures.reads.0, c.in_ok-a.ensures.reads.0, e) refl) c.in_err-b.ensures.reads)

pub read_choice-returns-in_err-after-clause-reads : goal.read_choice-returns-in_err-after-clause-reads
unfolding choice_at
read_choice-returns-in_err-after-clause-reads t c =
    let p = err_from_is_err_and c.from_residual-in_err-after.result c.from_residual-in_err-after.ensures.1 in
    rw (p.1, p.2) (refused_by (fault_of c.in_err-after.field-0.0) (expect c.args.bytes.now RightParen c.in_ok-b.at) (choice_at c.args.bytes.now c.args.room c.args.width c.args.place)
    (λ f e. rw (c.in_ok-v.ensures.reads.0, c.in_ok-a.ensures.reads.0, c.in_ok-b.ensures.reads.0, e) refl) c.in_err-after.ensures)

pub read_choice-returns-in_err-tree-clause-reads : goal.read_choice-returns-in_err-tree-clause-reads
read_choice-returns-in_err-tree-clause-reads t c =
    let p = err_from_is_err_and c.from_residual-in_err-tree.result c.from_residual-in_err-tree.ensures.1 in
    rw (p.1, p.2) tt

pub read_choice-returns-clause-reads : goal.read_choice-returns-clause-reads
unfolding choice_at
read_choice-returns-clause-reads t c =
    let made : c.in_ok-tree.tree.tree ≡ If c.in_ok-v.v c.in_ok-a.a.tree c.in_ok-b.b.tree = ap (λ (q : ScopedTree). q.tree) c.in_ok-tree.ensures in (
      rw (made, c.in_ok-v.ensures.reads.0, c.in_ok-a.ensures.reads.0, c.in_ok-b.ensures.reads.0, c.in_ok-after.ensures.0) refl,
      omega (arith, c.in_ok-v.ensures.reads.1, c.in_ok-a.ensures.reads.1, c.in_ok-b.ensures.reads.1, c.in_ok-after.ensures.1),
      c.in_ok-after.ensures.2,
    )

pub read_new_parameter-returns-in_err-quotient-clause-reads : goal.read_new_parameter-returns-in_err-quotient-clause-reads
unfolding define_at
read_new_parameter-returns-in_err-quotient-clause-reads t c =
    let p = err_from_is_err_and c.from_residual.result c.from_residual.ensures.1 in
    rw (p.1, p.2) (refused_by (text_fault c.in_err-quotient.field-0.0) (definition_at c.args.bytes.now c.args.width c.args.place) (define_at c.args.bytes.now c.args.room c.args.width c.args.place)
    (λ f e. rw e refl) c.in_err-quotient.ensures.reads)

pub read_new_parameter-returns-in_err-a-clause-reads : goal.read_new_parameter-returns-in_err-a-clause-reads
unfolding define_at
read_new_parameter-returns-in_err-a-clause-reads t c =
    let p = err_from_is_err_and c.from_residual-in_err-a.result c.from_residual-in_err-a.ensures.1 in
    rw (p.1, p.2) (refused_by (text_fault c.in_err-a.field-0.0) (tree c.args.bytes.now c.args.room (c.args.width + 1) c.in_ok-quotient.at) (define_at c.args.bytes.now c.args.room c.args.width c.args.place)
    (λ f e. rw (c.in_ok-quotient.ensures.reads.0, e) refl) c.in_err-a.ensures.reads)

pub read_new_parameter-returns-in_err-tree-clause-reads : goal.read_new_parameter-returns-in_err-tree-clause-reads
read_new_parameter-returns-in_err-tree-clause-reads t c =
    let p = err_from_is_err_and c.from_residual-in_err-tree.result c.from_residual-in_err-tree.ensures.1 in
    rw (p.1, p.2) tt

pub read_new_parameter-returns-clause-reads : goal.read_new_parameter-returns-clause-reads
unfolding define_at
read_new_parameter-returns-clause-reads t c =
    let made : c.in_ok-tree.tree.tree ≡ NewParm c.in_ok-quotient.quotient.form c.in_ok-quotient.quotient.divisor c.in_ok-a.a.tree = search rules in (
      rw (made, c.in_ok-quotient.ensures.reads.0, c.in_ok-a.ensures.reads.0) refl,
      omega (arith, c.in_ok-quotient.ensures.reads.1, c.in_ok-a.ensures.reads.1),
      c.in_ok-a.ensures.reads.2,
    )
