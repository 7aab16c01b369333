use Rattle.certificate_check.proofs.Words.{◌≡◌, ◌+◌, max, ap, ◌∙◌, arith, on_ok_weaker, size, nesting, Certificate, tree_of}
use Rattle.certificate_check.proofs.Shares.{second_counted, both_shared}
use Rattle.certificate_check.proofs.sharing.Leaves.+share_node.Goals as goal

pub share_node-requires-in-Select : goal.share_node-requires-in-Select
share_node-requires-in-Select t c =
    let a = tree_of c.in-Select.a.value in
    let b = tree_of c.in-Select.b.value in
    let whole = ap tree_of c.in-Select.is in
    let larger : size (tree_of c.args.node.now) ≡ 1 + size a + size b = ap size whole in
    let deeper : nesting (tree_of c.args.node.now) ≡ 1 + max (nesting a) (nesting b) = ap nesting whole in
    let shares = ap (λ (d : Certificate). d.shares) c.in_ok-share_node-in-Select.ensures ∙ c.requires.shares in
    let counted = second_counted c.args.self.now.problem.now c.args.self.now.proofs.now c.args.path c.in-Select.field-0 a b (tree_of c.args.node.now) whole c.args.made.now c.share_node.new.made (rw c.deref.ensures at c.in_ok-share_node-in-Select.ensures) c.requires.counted in
    rw (ap tree_of c.deref-in-Select.ensures) (omega arith, (shares, (omega arith, counted)))

pub returns-in_ok-share_node-in-Select : goal.returns-in_ok-share_node-in-Select
returns-in_ok-share_node-in-Select t c =
    on_ok_weaker c.share_node-in-Select.result
    (both_shared c.args.self.now.problem.now c.args.self.now.proofs.now c.args.path c.in-Select.field-0 (tree_of c.in-Select.a.value) (tree_of c.in-Select.b.value) (tree_of c.args.node.now) (ap tree_of c.in-Select.is) c.args.made.now c.share_node.new.made (rw c.deref.ensures at c.in_ok-share_node-in-Select.ensures) c.share_node-in-Select.new.made)
    (rw c.deref-in-Select.ensures at c.share_node-in-Select.ensures)
