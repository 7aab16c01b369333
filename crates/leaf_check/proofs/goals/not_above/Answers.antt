use Rattle.leaf_check.proofs.Words.{◌≡◌, ◌∙◌, ap, ℤ, negsuc, List, rules, widen_to}
use Rattle.std.specs.Prelude.{slice_set}
use Rattle.leaf_check.proofs.Smaller.{not_above_set}
use Rattle.leaf_check.proofs.goals.not_above.Goals as goal

pub returns-clause-value : goal.returns-clause-value
returns-clause-value c =
    let wide : c.in_ok-made.made.items ≡ widen_to c.args.width c.args.component.now.form = search rules in
    ap (λ (l : List ℤ). slice_set l c.args.place (negsuc 0)) wide ∙ not_above_set c.args.width c.args.place c.args.component.now c.requires.place c.requires.within
