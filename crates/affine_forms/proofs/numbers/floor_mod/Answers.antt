use Rattle.affine_forms.proofs.Words.{rules, arith, ints, lt-ltb, ◌^◌, ◌<ℤ◌, ◌≤ℤ◌, ℤ, pos, negsuc, unsigned_abs, floor_mod, Fits, fits-below}
use Rattle.affine_forms.proofs.numbers.floor_mod.Goals as goal

low : (a d : ℤ) → pos 0 ≤ℤ floor_mod a d
low (pos m) d = omega (arith, ints)
low (negsuc m) d = omega (arith, ints)

high : (a d : ℤ) → pos 1 ≤ℤ d → floor_mod a d <ℤ d
high a (negsuc n) h = absurd (omega (arith, ints))
high (pos m) (pos n) h = omega (arith, ints)
high (negsuc m) (pos n) h = omega (arith, ints)

left_fits : (a d : ℤ) → pos 1 ≤ℤ d → Fits d → Fits (floor_mod a d)
left_fits a d h fit = fits-below (floor_mod a d) d (low a d) (high a d h) fit

pub returns-then-is_short-2-clause-value : goal.returns-then-is_short-2-clause-value
returns-then-is_short-2-clause-value c = search rules

pub returns-then-is_short-2-clause-low : goal.returns-then-is_short-2-clause-low
returns-then-is_short-2-clause-low c = rw (returns-then-is_short-2-clause-value c) (low c.args.a c.args.d)

pub returns-then-is_short-2-clause-high : goal.returns-then-is_short-2-clause-high
returns-then-is_short-2-clause-high c = rw (returns-then-is_short-2-clause-value c) (high c.args.a c.args.d c.requires.positive)

pub returns-then-is_short-2-clause-fits : goal.returns-then-is_short-2-clause-fits
returns-then-is_short-2-clause-fits c =
    let fit : Fits c.args.d = lt-ltb (unsigned_abs c.args.d) (2 ^ 127) (omega (arith, ints, c.ranges.d)) in
    rw (returns-then-is_short-2-clause-value c) (left_fits c.args.a c.args.d c.requires.positive fit)

pub returns-clause-value : goal.returns-clause-value
returns-clause-value c = search rules

pub returns-clause-low : goal.returns-clause-low
returns-clause-low c = rw (returns-clause-value c) (low c.args.a c.args.d)

pub returns-clause-high : goal.returns-clause-high
returns-clause-high c = rw (returns-clause-value c) (high c.args.a c.args.d c.requires.positive)

pub returns-clause-fits : goal.returns-clause-fits
returns-clause-fits c =
    let fit : Fits c.args.d = lt-ltb (unsigned_abs c.args.d) (2 ^ 127) (omega (arith, ints, c.ranges.d)) in
    rw (returns-clause-value c) (left_fits c.args.a c.args.d c.requires.positive fit)
