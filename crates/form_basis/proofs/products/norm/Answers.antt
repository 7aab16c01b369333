use Rattle.form_basis.proofs.Words.{rules, norm_more}
use Rattle.form_basis.proofs.products.norm.Goals as goal

pub loop-number-preserved : goal.loop-number-preserved
loop-number-preserved c = search (rules, norm_more c.args.numbers.now c.loop-number.number-index (search rules))
