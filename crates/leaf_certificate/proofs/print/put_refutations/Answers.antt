use Rattle.leaf_certificate.proofs.Words.{◌≡◌, ◌∙◌, ap, append_assoc, ◌++◌, arith, flat_map, take, spell_refutation, spell_refutations, written, spelt_more, get_or}
use Rattle.leaf_certificate.proofs.Spellings.{refutations_flat}
use Rattle.leaf_certificate.proofs.print.put_refutations.Goals as goal

pub loop-refutation-preserved : goal.loop-refutation-preserved
loop-refutation-preserved c =
    let more : c.put_refutation.new.out.items ≡ c.loop-refutation.out.items ++ spell_refutation (get_or c.args.refutations.now c.loop-refutation.refutation-index c.refutation-item.result) = rw (← c.refutation-item.is) c.in_ok-put_refutation.ensures.ok in
    spelt_more spell_refutation c.args.refutations.now c.loop-refutation.refutation-index c.refutation-item.result c.args.out.now.items c.loop-refutation.out.items c.put_refutation.new.out.items c.loop-refutation-test.true c.loop-refutation.invariant more

pub returns-clause-ok : goal.returns-clause-ok
returns-clause-ok c =
    c.loop-refutation.invariant ∙ ap (λ t. c.args.out.now.items ++ t) (written spell_refutation c.args.refutations.now c.loop-refutation.refutation-index (spell_refutations c.args.refutations.now) (omega arith) (refutations_flat c.args.refutations.now))

pub returns-clause-kept : goal.returns-clause-kept
returns-clause-kept c = record { rest = flat_map spell_refutation (take c.loop-refutation.refutation-index c.args.refutations.now); is = c.loop-refutation.invariant }

pub returns-in_err-put_refutation-clause-kept : goal.returns-in_err-put_refutation-clause-kept
returns-in_err-put_refutation-clause-kept c =
    let before = flat_map spell_refutation (take c.loop-refutation.refutation-index c.args.refutations.now) in
    let k = c.in_err-put_refutation.ensures.kept in
    record {
      rest = before ++ k.rest;
      is = k.is ∙ ap (λ t. t ++ k.rest) c.loop-refutation.invariant ∙ append_assoc c.args.out.now.items before k.rest;
    }
