use Rattle.derivation_steps.proofs.Words.{◌+ℤ◌, ◌*ℤ◌, to_z-of_z, w128}
use Rattle.derivation_steps.proofs.Short.{product_fits, sum_fits, fits_128}
use Rattle.derivation_steps.proofs.sum.short_sum.Goals as goal

pub overflow_mul-result : goal.overflow_mul-result
overflow_mul-result c =
    let m = to_z-of_z w128 c.args.m c.ranges.m in
    let x = to_z-of_z w128 c.args.c c.ranges.c in
    rw (m, x) (fits_128 (c.args.m *ℤ c.args.c) (product_fits c.args.m c.args.c c.requires.m c.requires.c))

pub overflow_add-result : goal.overflow_add-result
overflow_add-result c =
    let s = to_z-of_z w128 c.args.sum c.ranges.sum in
    let m = to_z-of_z w128 c.args.m c.ranges.m in
    let x = to_z-of_z w128 c.args.c c.ranges.c in
    let held = to_z-of_z w128 (c.args.m *ℤ c.args.c) (fits_128 (c.args.m *ℤ c.args.c) (product_fits c.args.m c.args.c c.requires.m c.requires.c)) in
    rw (s, m, x, held) (fits_128 (c.args.sum +ℤ c.args.m *ℤ c.args.c) (sum_fits c.args.sum c.args.m c.args.c c.requires.sum c.requires.m c.requires.c))

pub returns-clause-value : goal.returns-clause-value
returns-clause-value c =
    let s = to_z-of_z w128 c.args.sum c.ranges.sum in
    let m = to_z-of_z w128 c.args.m c.ranges.m in
    let x = to_z-of_z w128 c.args.c c.ranges.c in
    let held = to_z-of_z w128 (c.args.m *ℤ c.args.c) (fits_128 (c.args.m *ℤ c.args.c) (product_fits c.args.m c.args.c c.requires.m c.requires.c)) in
    rw (s, m, x, held) (to_z-of_z w128 (c.args.sum +ℤ c.args.m *ℤ c.args.c) (fits_128 (c.args.sum +ℤ c.args.m *ℤ c.args.c) (sum_fits c.args.sum c.args.m c.args.c c.requires.sum c.requires.m c.requires.c)))

pub returns-clause-product : goal.returns-clause-product
returns-clause-product c = product_fits c.args.m c.args.c c.requires.m c.requires.c

pub returns-clause-fits : goal.returns-clause-fits
returns-clause-fits c = sum_fits c.args.sum c.args.m c.args.c c.requires.sum c.requires.m c.requires.c
