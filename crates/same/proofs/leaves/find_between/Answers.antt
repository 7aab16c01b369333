use Rattle.same.proofs.Words.{rules, ◌∙◌, ap, ℕ, widened_components}
use Rattle.quast_walk.proofs.Lists.{lists_met}
use Rattle.same.proofs.leaves.find_between.Goals as goal

pub find_in_lists-requires-clause-lists : goal.find_in_lists-requires-clause-lists
find_in_lists-requires-clause-lists c =
    let first = c.deref.ensures.value ∙ c.in_ok-wide.ensures ∙ ap (λ (k : ℕ). widened_components k c.args.first.now) c.mark.ensures.width in
    let second = c.deref-2.ensures.value ∙ c.in_ok-other.ensures.value c.args.context.now.width c.requires.met.second in
    lists_met c.args.reading.now.parameters c.args.reading.now.between c.args.context.now.width c.args.first.now c.args.second.now c.deref.result.now c.deref-2.result.now c.requires.met first second (search rules)
