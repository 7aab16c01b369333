use Rattle.short_row.proofs.Words.{rules, ◌≡◌, ap, ◌∙◌, ◌+◌, ◌*ℤ◌, arith, to_z, of_z, w64, slice_set, All-set, IsShort, gcd, entry, divided, length-set}
use Rattle.short_row.proofs.Puts.{put_closed, put_done, closed_content, whole_short, numbers_short}
use Rattle.short_row.proofs.put.close.Goals as goal

pub divide_row-requires-clause-short : goal.divide_row-requires-clause-short
divide_row-requires-clause-short c =
    All-set IsShort _ _ _ (search rules) (All-set IsShort _ _ _ (search rules) (whole_short c.args.row.now c.requires.put.den.short c.requires.put.terms.row))

pub divide_row-requires-clause-content : goal.divide_row-requires-clause-content
divide_row-requires-clause-content c =
    let w = c.args.put.now in
    let d : to_z w64 (of_z w64 c.in-Some.ends.0) ≡ entry c.args.row.now 0 *ℤ c.args.put.now.by.of_row = search rules in
    let e : to_z w64 (of_z w64 c.in-Some.ends.1) ≡ c.args.put.now.by.of_pivot *ℤ entry c.args.p.now 0 = search rules in
    let start : to_z w64 (of_z w64 c.common-start.result) ≡ gcd (entry c.args.row.now 0) (entry c.args.p.now 0) = search rules in
    closed_content c.args.unknowns w c.args.p.now c.args.row.now
    (slice_set (slice_set c.args.row.now 0 (to_z w64 (of_z w64 c.in-Some.ends.0))) (c.args.put.now.column + 1) (to_z w64 (of_z w64 c.in-Some.ends.1))) (to_z w64 (of_z w64 c.common-start.result)) c.requires.put
    (put_closed c.args.unknowns w c.args.p.now c.args.row.now c.requires.put (to_z w64 (of_z w64 c.in-Some.ends.0)) (to_z w64 (of_z w64 c.in-Some.ends.1)) c.requires.made d e) start

pub returns-clause-turned : goal.returns-clause-turned
returns-clause-turned c = λ all.
    let w = c.args.put.now in
    let d : to_z w64 (of_z w64 c.in-Some.ends.0) ≡ entry c.args.row.now 0 *ℤ c.args.put.now.by.of_row = search rules in
    let e : to_z w64 (of_z w64 c.in-Some.ends.1) ≡ c.args.put.now.by.of_pivot *ℤ entry c.args.p.now 0 = search rules in
    let row = put_closed c.args.unknowns w c.args.p.now c.args.row.now c.requires.put (to_z w64 (of_z w64 c.in-Some.ends.0)) (to_z w64 (of_z w64 c.in-Some.ends.1)) c.requires.made d e in
    let size = length-set (slice_set c.args.row.now 0 (to_z w64 (of_z w64 c.in-Some.ends.0))) (c.args.put.now.column + 1) (to_z w64 (of_z w64 c.in-Some.ends.1)) in
    let size_too = length-set c.args.row.now 0 (to_z w64 (of_z w64 c.in-Some.ends.0)) in
    put_done c.args.unknowns w c.args.p.now c.args.row.now c.requires.put c.divide_row.new.row (omega (arith, size, size_too, c.divide_row.auto.row)) (c.divide_row.ensures.value ∙ ap divided row)
    (numbers_short c.args.unknowns c.divide_row.new.row (omega (arith, size, size_too, c.divide_row.auto.row, c.requires.put.some)) c.divide_row.ensures.short)
