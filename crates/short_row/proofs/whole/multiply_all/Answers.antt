use Rattle.short_row.proofs.Words.{rules, ◌≡◌, ap, ◌∙◌, ◌*ℤ◌, arith, pos, to_z, of_z, w64, slice_index_or, get_or, to_z-of_z, mapped_step, fits_signed_from_abs}
use Rattle.short_row.proofs.Wholes.{scaled_short}
use Rattle.short_row.proofs.whole.multiply_all.Goals as goal

pub overflow_mul-number : goal.overflow_mul-number
overflow_mul-number c =
    let by : to_z w64 (of_z w64 c.args.d) ≡ c.args.d = search rules in
    let number : to_z w64 (of_z w64 (slice_index_or c.loop-number.entries c.loop-number.number-index (pos 0))) ≡ get_or c.loop-number.entries c.loop-number.number-index (pos 0) = search rules in
    let short = scaled_short c.args.d c.args.entries.now c.loop-number.entries c.loop-number.number-index (omega arith) (search rules) (search rules) in
    rw (by, number) (fits_signed_from_abs w64 _ (omega (arith, short)))

pub loop-number-preserved : goal.loop-number-preserved
loop-number-preserved c =
    let by : to_z w64 (of_z w64 c.args.d) ≡ c.args.d = search rules in
    let number : to_z w64 (of_z w64 (slice_index_or c.loop-number.entries c.loop-number.number-index (pos 0))) ≡ get_or c.loop-number.entries c.loop-number.number-index (pos 0) = search rules in
    mapped_step _ _ _ c.loop-number.number-index _ (pos 0) (omega arith) c.loop-number.invariant (to_z-of_z w64 _ (overflow_mul-number c) ∙ ap (λ z. to_z w64 (of_z w64 c.args.d) *ℤ z) number)
