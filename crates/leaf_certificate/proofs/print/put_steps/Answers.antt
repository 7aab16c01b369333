use Rattle.leaf_certificate.proofs.Words.{◌≡◌, ◌∙◌, ap, append_assoc, ◌++◌, arith, flat_map, take, spell_step, spell_steps, written, spelt_more, get_or}
use Rattle.leaf_certificate.proofs.Spellings.{steps_flat}
use Rattle.leaf_certificate.proofs.print.put_steps.Goals as goal

pub loop-step-preserved : goal.loop-step-preserved
loop-step-preserved c =
    let more : c.put_step.new.out.items ≡ c.loop-step.out.items ++ spell_step (get_or c.args.steps.now c.loop-step.step-index c.step-item.result) = rw (← c.step-item.is) c.in_ok-put_step.ensures.ok in
    spelt_more spell_step c.args.steps.now c.loop-step.step-index c.step-item.result c.args.out.now.items c.loop-step.out.items c.put_step.new.out.items c.loop-step-test.true c.loop-step.invariant more

pub returns-clause-ok : goal.returns-clause-ok
returns-clause-ok c =
    c.loop-step.invariant ∙ ap (λ t. c.args.out.now.items ++ t) (written spell_step c.args.steps.now c.loop-step.step-index (spell_steps c.args.steps.now) (omega arith) (steps_flat c.args.steps.now))

pub returns-clause-kept : goal.returns-clause-kept
returns-clause-kept c = record { rest = flat_map spell_step (take c.loop-step.step-index c.args.steps.now); is = c.loop-step.invariant }

pub returns-in_err-put_step-clause-kept : goal.returns-in_err-put_step-clause-kept
returns-in_err-put_step-clause-kept c =
    let before = flat_map spell_step (take c.loop-step.step-index c.args.steps.now) in
    let k = c.in_err-put_step.ensures.kept in
    record {
      rest = before ++ k.rest;
      is = k.is ∙ ap (λ t. t ++ k.rest) c.loop-step.invariant ∙ append_assoc c.args.out.now.items before k.rest;
    }
