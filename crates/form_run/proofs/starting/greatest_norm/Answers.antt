use Rattle.form_run.proofs.Words.{rules, ◌≤◌, subst, List, ℤ, all_taken, norms_more}
use Rattle.form_basis.specs.Bounds as bounds
use Rattle.form_run.proofs.starting.greatest_norm.Goals as goal

pub loop-i-preserved : goal.loop-i-preserved
loop-i-preserved c =
    let one : bounds.norm c.at.result.now ≤ c.greater-greatest.result = search rules in
    norms_more c.loop-i.greatest c.greater-greatest.result c.args.all.now.lists c.loop-i.i (search rules) c.loop-i.invariant c.greater-greatest.ensures.first
    (subst (λ (f : List ℤ). bounds.norm f ≤ c.greater-greatest.result) c.at.ensures.value one)

pub returns : goal.returns
returns c = all_taken (λ f. bounds.norm f ≤ c.loop-i.greatest) c.args.all.now.lists c.loop-i.i (search rules) c.loop-i.invariant
