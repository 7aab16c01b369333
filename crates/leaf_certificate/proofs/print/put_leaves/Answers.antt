use Rattle.leaf_certificate.proofs.Words.{◌≡◌, ◌∙◌, ap, append_assoc, ◌++◌, arith, flat_map, take, spell_leaf, spell_leaves, written, spelt_more, get_or}
use Rattle.leaf_certificate.proofs.Spellings.{leaves_flat}
use Rattle.leaf_certificate.proofs.print.put_leaves.Goals as goal

pub loop-leaf-preserved : goal.loop-leaf-preserved
loop-leaf-preserved c =
    let more : c.put_leaf.new.out.items ≡ c.loop-leaf.out.items ++ spell_leaf c.args.shares (get_or c.args.leaves.now c.loop-leaf.leaf-index c.leaf-item.result) = rw (← c.leaf-item.is) c.in_ok-put_leaf.ensures.ok in
    spelt_more (spell_leaf c.args.shares) c.args.leaves.now c.loop-leaf.leaf-index c.leaf-item.result c.args.out.now.items c.loop-leaf.out.items c.put_leaf.new.out.items c.loop-leaf-test.true c.loop-leaf.invariant more

pub returns-clause-ok : goal.returns-clause-ok
returns-clause-ok c =
    c.loop-leaf.invariant ∙ ap (λ t. c.args.out.now.items ++ t) (written (spell_leaf c.args.shares) c.args.leaves.now c.loop-leaf.leaf-index (spell_leaves c.args.shares c.args.leaves.now) (omega arith) (leaves_flat c.args.shares c.args.leaves.now))

pub returns-clause-kept : goal.returns-clause-kept
returns-clause-kept c = record {
  rest = flat_map (spell_leaf c.args.shares) (take c.loop-leaf.leaf-index c.args.leaves.now);
  is = c.loop-leaf.invariant;
}

pub returns-in_err-put_leaf-clause-kept : goal.returns-in_err-put_leaf-clause-kept
returns-in_err-put_leaf-clause-kept c =
    let before = flat_map (spell_leaf c.args.shares) (take c.loop-leaf.leaf-index c.args.leaves.now) in
    let k = c.in_err-put_leaf.ensures.kept in
    record {
      rest = before ++ k.rest;
      is = k.is ∙ ap (λ t. t ++ k.rest) c.loop-leaf.invariant ∙ append_assoc c.args.out.now.items before k.rest;
    }
