use Rattle.form_basis.proofs.Words.{◌+ℤ◌, ◌*ℤ◌, refl, w64, to_z-of_z, fits_signed_from_abs}
use Rattle.form_basis.proofs.products.add_product.Goals as goal

pub overflow_mul-result : goal.overflow_mul-result
overflow_mul-result c =
    rw (to_z-of_z w64 c.args.x c.ranges.x, to_z-of_z w64 c.args.y c.ranges.y) (fits_signed_from_abs w64 (c.args.x *ℤ c.args.y) c.requires.product)

pub overflow_add-result : goal.overflow_add-result
overflow_add-result c =
    rw (
      to_z-of_z w64 c.args.sum c.ranges.sum,
      to_z-of_z w64 c.args.x c.ranges.x,
      to_z-of_z w64 c.args.y c.ranges.y,
      to_z-of_z w64 (c.args.x *ℤ c.args.y) (fits_signed_from_abs w64 (c.args.x *ℤ c.args.y) c.requires.product),
    )
    (fits_signed_from_abs w64 (c.args.sum +ℤ c.args.x *ℤ c.args.y) c.requires.all)

pub returns : goal.returns
returns c =
    rw (
      to_z-of_z w64 c.args.sum c.ranges.sum,
      to_z-of_z w64 c.args.x c.ranges.x,
      to_z-of_z w64 c.args.y c.ranges.y,
      to_z-of_z w64 (c.args.x *ℤ c.args.y) (fits_signed_from_abs w64 (c.args.x *ℤ c.args.y) c.requires.product),
      to_z-of_z w64 (c.args.sum +ℤ c.args.x *ℤ c.args.y) (fits_signed_from_abs w64 (c.args.sum +ℤ c.args.x *ℤ c.args.y) c.requires.all),
    ) refl
