use Rattle.node_rows.proofs.Words.{rules, dot_none, dot_step}
use Rattle.node_rows.proofs.products.dot.Goals as goal

pub loop-i-init : goal.loop-i-init
loop-i-init c = dot_none c.args.form.now c.args.column.now

pub narrow-requires : goal.narrow-requires
narrow-requires c = search (rules, (dot_step c.args.form.now c.args.column.now c.loop-i.i _ c.requires (search rules) c.loop-i.invariant).short)

pub add_product-sum-requires-clause-all : goal.add_product-sum-requires-clause-all
add_product-sum-requires-clause-all c = search (rules, (dot_step c.args.form.now c.args.column.now c.loop-i.i _ c.requires (search rules) c.loop-i.invariant).all)

pub loop-i-preserved : goal.loop-i-preserved
loop-i-preserved c = search (rules, (dot_step c.args.form.now c.args.column.now c.loop-i.i _ c.requires (search rules) c.loop-i.invariant).next)
