use Rattle.std.proofs.Common.{◌^◌, arith, rules, ◌≡◌, ◌<◌, ℤ, ◌*ℤ◌, ◌-ℤ◌, to_z, of_z, unsigned_abs, w32, w64, FitsSigned}
use Rattle.std.proofs.lemmas.Int.{ints, to_z-of_z, fits_signed_from_abs}
use Rattle.short_numbers.specs.Short.{IsHalf}
use Rattle.short_numbers.proofs.Bounds.{half_bound}
use Rattle.short_numbers.proofs.pairs.two_differences.Goals as goal

-- a number through 32 bits, and a product of two such
abbrev low : ℤ → ℤ
low z = to_z w64 (of_z w64 (to_z w32 (of_z w32 (to_z w64 (of_z w64 z)))))

abbrev made : ℤ → ℤ → ℤ
made a x = to_z w64 (of_z w64 (to_z w64 (of_z w64 (low a *ℤ low x))))

low_is : (z : ℤ) → IsHalf z → low z ≡ z
low_is z h =
    let same : to_z w64 (of_z w64 z) ≡ z = to_z-of_z w64 z (fits_signed_from_abs w64 z (omega (arith, h))) in
    let less : to_z w32 (of_z w32 z) ≡ z = to_z-of_z w32 z (fits_signed_from_abs w32 z h) in
    rw (same, less) same

fits : (a x : ℤ) → IsHalf a → IsHalf x → FitsSigned w64 (low a *ℤ low x)
fits a x h k = rw (low_is a h, low_is x k) (fits_signed_from_abs w64 (a *ℤ x) (omega (arith, half_bound a x h k)))

made_is : (a x : ℤ) → IsHalf a → IsHalf x → made a x ≡ a *ℤ x
made_is a x h k =
    let same : to_z w64 (of_z w64 (a *ℤ x)) ≡ a *ℤ x = to_z-of_z w64 (a *ℤ x) (fits_signed_from_abs w64 (a *ℤ x) (omega (arith, half_bound a x h k))) in
    rw (low_is a h, low_is x k, same) same

module _ (a x b y : ℤ) (f : IsHalf a) (g : IsHalf x) (h : IsHalf b) (k : IsHalf y) where
  small : unsigned_abs (a *ℤ x -ℤ b *ℤ y) < 2 ^ 63
  small = omega (arith, ints, half_bound a x f g, half_bound b y h k)

  difference_fits : FitsSigned w64 (made a x -ℤ made b y)
  difference_fits = rw (made_is a x f g, made_is b y h k) (fits_signed_from_abs w64 (a *ℤ x -ℤ b *ℤ y) small)

  difference_is : to_z w64 (of_z w64 (made a x -ℤ made b y)) ≡ a *ℤ x -ℤ b *ℤ y
  difference_is = rw (made_is a x f g, made_is b y h k) (to_z-of_z w64 (a *ℤ x -ℤ b *ℤ y) (fits_signed_from_abs w64 (a *ℤ x -ℤ b *ℤ y) small))

pub overflow_mul-products : goal.overflow_mul-products
overflow_mul-products c =
    let by = c.requires.factors in
    let one = fits c.args.a c.args.x.0 by.first c.requires.row.first in
    let two = fits c.args.a c.args.x.1 by.first c.requires.row.second in
    let three = fits c.args.b c.args.y.0 by.second c.requires.pivot.first in
    let four = fits c.args.b c.args.y.1 by.second c.requires.pivot.second in
    search (rules, one, two, three, four)

pub overflow_sub-result : goal.overflow_sub-result
overflow_sub-result c = difference_fits c.args.a c.args.x.0 c.args.b c.args.y.0 c.requires.factors.first c.requires.row.first c.requires.factors.second c.requires.pivot.first

pub overflow_sub-result-2 : goal.overflow_sub-result-2
overflow_sub-result-2 c = difference_fits c.args.a c.args.x.1 c.args.b c.args.y.1 c.requires.factors.first c.requires.row.second c.requires.factors.second c.requires.pivot.second

pub returns-clause-first : goal.returns-clause-first
returns-clause-first c = difference_is c.args.a c.args.x.0 c.args.b c.args.y.0 c.requires.factors.first c.requires.row.first c.requires.factors.second c.requires.pivot.first

pub returns-clause-second : goal.returns-clause-second
returns-clause-second c = difference_is c.args.a c.args.x.1 c.args.b c.args.y.1 c.requires.factors.first c.requires.row.second c.requires.factors.second c.requires.pivot.second

pub returns-clause-short : goal.returns-clause-short
returns-clause-short c = record {
  first =
      rw (difference_is c.args.a c.args.x.0 c.args.b c.args.y.0 c.requires.factors.first c.requires.row.first c.requires.factors.second c.requires.pivot.first)
      (small c.args.a c.args.x.0 c.args.b c.args.y.0 c.requires.factors.first c.requires.row.first c.requires.factors.second c.requires.pivot.first);
  second =
      rw (difference_is c.args.a c.args.x.1 c.args.b c.args.y.1 c.requires.factors.first c.requires.row.second c.requires.factors.second c.requires.pivot.second)
      (small c.args.a c.args.x.1 c.args.b c.args.y.1 c.requires.factors.first c.requires.row.second c.requires.factors.second c.requires.pivot.second);
}
