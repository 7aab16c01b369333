use Rattle.least.proofs.Words.{rules, arith, ◌∙◌, ap, ℕ, widened_components}
use Rattle.quast_walk.proofs.Lists.{lists_met}
use Rattle.least.proofs.lesser_leaves.choose_between.Goals as goal

pub choose_rest-requires-clause-rest : goal.choose_rest-requires-clause-rest
choose_rest-requires-clause-rest c =
    let first = c.deref.ensures.value ∙ c.in_ok-wide.ensures ∙ ap (λ (k : ℕ). widened_components k c.args.lists.now.first.now) c.mark.ensures.width in
    let second = c.deref-2.ensures.value ∙ c.in_ok-other.ensures.value c.args.context.now.width c.requires.met.second in
    record {
      lists = lists_met c.args.reading.now.parameters c.args.reading.now.between c.args.context.now.width c.args.lists.now.first.now c.args.lists.now.second.now c.deref.result.now c.deref-2.result.now c.requires.met first second (search rules);
      next = omega arith;
      wide = tt;
    }
