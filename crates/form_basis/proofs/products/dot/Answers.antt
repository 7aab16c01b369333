use Rattle.form_basis.proofs.Words.{rules, dot_none, dot_step}
use Rattle.form_basis.proofs.products.dot.Goals as goal

pub loop-i-init : goal.loop-i-init
loop-i-init c = dot_none c.args.form.now c.args.column.now

pub add_product-sum-requires-clause-all : goal.add_product-sum-requires-clause-all
add_product-sum-requires-clause-all c = search (rules, (dot_step c.args.form.now c.args.column.now c.loop-i.i _ c.requires (search rules) c.loop-i.invariant).all)

pub loop-i-preserved : goal.loop-i-preserved
loop-i-preserved c = search (rules, (dot_step c.args.form.now c.args.column.now c.loop-i.i _ c.requires (search rules) c.loop-i.invariant).next)
