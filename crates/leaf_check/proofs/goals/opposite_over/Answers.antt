use Rattle.leaf_check.proofs.Words.{◌≡◌, ◌∙◌, ap, length, arith, rules, opposite, length-opposite, length-widened}
use Rattle.leaf_check.proofs.goals.opposite_over.Goals as goal

pub overflow_sub-more : goal.overflow_sub-more
overflow_sub-more c =
    let e : length (opposite c.args.form) ≡ length c.args.form = length-opposite c.args.form (search rules) in
    let same : c.opposite.new.self ≡ opposite c.args.form = search rules in
    omega (arith, e, ap length same, c.width.ensures.entries, c.requires)

pub returns-clause-long : goal.returns-clause-long
returns-clause-long c =
    let e : length (opposite c.args.form) ≡ length c.args.form = length-opposite c.args.form (search rules) in
    ap length (search rules) ∙ length-widened c.args.width (opposite c.args.form) (omega (arith, e, c.requires))
