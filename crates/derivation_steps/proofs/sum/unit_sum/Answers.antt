use Rattle.derivation_steps.proofs.Words.{to_z-of_z, w128}
use Rattle.derivation_steps.proofs.Short.{narrow_fits, once_fits, once_128}
use Rattle.derivation_steps.proofs.Spreading.{once}
use Rattle.derivation_steps.proofs.sum.unit_sum.Goals as goal

pub overflow_add-result : goal.overflow_add-result
overflow_add-result c =
    let s = to_z-of_z w128 c.args.sum c.ranges.sum in
    let x = to_z-of_z w128 c.args.c c.ranges.c in
    rw (s, x) (once_128 c.args.sum c.args.c c.requires.sum c.requires.c)

pub returns-clause-value : goal.returns-clause-value
returns-clause-value c =
    let s = to_z-of_z w128 c.args.sum c.ranges.sum in
    let x = to_z-of_z w128 c.args.c c.ranges.c in
    rw (s, x, once c.args.c) (to_z-of_z w128 _ (once_128 c.args.sum c.args.c c.requires.sum c.requires.c))

pub returns-clause-product : goal.returns-clause-product
returns-clause-product c = once_fits c.args.c c.requires.c

pub returns-clause-fits : goal.returns-clause-fits
returns-clause-fits c = narrow_fits c.args.sum c.args.c c.requires.sum c.requires.c
