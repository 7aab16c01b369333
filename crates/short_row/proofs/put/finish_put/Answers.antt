use Rattle.short_row.proofs.Words.{rules, ◌≡◌, ap, sym, ◌+◌, ◌-◌, ◌*ℤ◌, arith, pos, to_z, of_z, w64, w128, slice_index_or, Row, entry}
use Rattle.short_row.proofs.ShortParts.{row_split}
use Rattle.short_row.proofs.Puts.{put_wide, put_wide_done, put_wide_long}
use Rattle.short_row.proofs.put.finish_put.Goals as goal

pub finish-requires : goal.finish-requires
finish-requires c =
    let split = row_split c.args.unknowns c.args.row.now c.split_at_mut-den.result.0.now c.split_at_mut-den.result.1.now c.split_at_mut-coefs.result.0.now c.split_at_mut-coefs.result.1.now (search rules) (search rules) (search rules) (search rules) in
    let first : slice_index_or c.split_at_mut-den.result.0.now 0 (pos 0) ≡ entry c.args.row.now 0 = sym (ap (λ (r : Row). r.den) split) in
    let pivot_den : c.view_of-pivot.result.den ≡ entry c.args.p.now 0 = ap (λ (r : Row). r.den) c.view_of-pivot.ensures in
    let den : to_z w128 (of_z w128 c.product.result) ≡ entry c.args.row.now 0 *ℤ c.args.by.of_row = search (rules, first) in
    let en : to_z w128 (of_z w128 c.product-2.result) ≡ c.args.by.of_pivot *ℤ entry c.args.p.now 0 = search (rules, pivot_den) in
    let sum : c.coefs_of-coefs_made.result + (c.args.at.made - c.coefs_of-coefs_made.result) ≡ c.args.at.made = omega (arith, c.coefs_of-coefs_made.ensures.front) in
    put_wide c.args.unknowns (record { by = c.args.by; column = c.args.at.column; made = c.args.at.made }) c.args.p.now c.args.row.now c.split_at_mut-coefs.result.0.now c.split_at_mut-coefs.result.1.now _ c.requires split _ c.view_of-pivot.ensures
    c.coefs_of-coefs_made.result (c.args.at.made - c.coefs_of-coefs_made.result) sum c.coefs_of-coefs_made.ensures.within
    (λ lt. let same = c.coefs_of-coefs_made.ensures.all lt in omega (arith, same))
    (to_z w128 (of_z w128 c.product.result)) (to_z w128 (of_z w128 c.product-2.result)) den en (search rules) (search rules)

pub returns-in-Some : goal.returns-in-Some
returns-in-Some c =
    let split = row_split c.args.unknowns c.args.row.now c.split_at_mut-den.result.0.now c.split_at_mut-den.result.1.now c.split_at_mut-coefs.result.0.now c.split_at_mut-coefs.result.1.now (search rules) (search rules) (search rules) (search rules) in
    let first : slice_index_or c.split_at_mut-den.result.0.now 0 (pos 0) ≡ entry c.args.row.now 0 = sym (ap (λ (r : Row). r.den) split) in
    let pivot_den : c.view_of-pivot.result.den ≡ entry c.args.p.now 0 = ap (λ (r : Row). r.den) c.view_of-pivot.ensures in
    let den : to_z w128 (of_z w128 c.product.result) ≡ entry c.args.row.now 0 *ℤ c.args.by.of_row = search (rules, first) in
    let en : to_z w128 (of_z w128 c.product-2.result) ≡ c.args.by.of_pivot *ℤ entry c.args.p.now 0 = search (rules, pivot_den) in
    let sum : c.coefs_of-coefs_made.result + (c.args.at.made - c.coefs_of-coefs_made.result) ≡ c.args.at.made = omega (arith, c.coefs_of-coefs_made.ensures.front) in
    let q = c.view_of-pivot.ensures in
    put_wide_done c.args.unknowns (record { by = c.args.by; column = c.args.at.column; made = c.args.at.made }) c.args.p.now c.args.row.now c.split_at_mut-coefs.result.0.now c.split_at_mut-coefs.result.1.now _ c.requires split _ c.view_of-pivot.ensures
    c.coefs_of-coefs_made.result (c.args.at.made - c.coefs_of-coefs_made.result) sum c.coefs_of-coefs_made.ensures.within
    (λ lt. let same = c.coefs_of-coefs_made.ensures.all lt in omega (arith, same))
    (to_z w128 (of_z w128 c.product.result)) (to_z w128 (of_z w128 c.product-2.result)) den en (search rules) (search rules)
    c.split_at_mut-den.result.0.now c.finish.new.coefs c.finish.new.constant (to_z w64 (of_z w64 c.in-Some.now)) (search rules) c.finish.auto.coefs c.finish.auto.constant (search rules)

pub returns-in-None : goal.returns-in-None
returns-in-None c =
    let split = row_split c.args.unknowns c.args.row.now c.split_at_mut-den.result.0.now c.split_at_mut-den.result.1.now c.split_at_mut-coefs.result.0.now c.split_at_mut-coefs.result.1.now (search rules) (search rules) (search rules) (search rules) in
    let first : slice_index_or c.split_at_mut-den.result.0.now 0 (pos 0) ≡ entry c.args.row.now 0 = sym (ap (λ (r : Row). r.den) split) in
    let pivot_den : c.view_of-pivot.result.den ≡ entry c.args.p.now 0 = ap (λ (r : Row). r.den) c.view_of-pivot.ensures in
    let den : to_z w128 (of_z w128 c.product.result) ≡ entry c.args.row.now 0 *ℤ c.args.by.of_row = search (rules, first) in
    let en : to_z w128 (of_z w128 c.product-2.result) ≡ c.args.by.of_pivot *ℤ entry c.args.p.now 0 = search (rules, pivot_den) in
    let sum : c.coefs_of-coefs_made.result + (c.args.at.made - c.coefs_of-coefs_made.result) ≡ c.args.at.made = omega (arith, c.coefs_of-coefs_made.ensures.front) in
    put_wide_long c.args.unknowns (record { by = c.args.by; column = c.args.at.column; made = c.args.at.made }) c.args.p.now c.args.row.now c.split_at_mut-coefs.result.0.now c.split_at_mut-coefs.result.1.now _ c.requires split _ c.view_of-pivot.ensures
    c.coefs_of-coefs_made.result (c.args.at.made - c.coefs_of-coefs_made.result) sum c.coefs_of-coefs_made.ensures.within
    (λ lt. let same = c.coefs_of-coefs_made.ensures.all lt in omega (arith, same))
    (to_z w128 (of_z w128 c.product.result)) (to_z w128 (of_z w128 c.product-2.result)) den en (search rules) (search rules)
    c.finish.new.coefs c.finish.new.constant _ (search rules)
