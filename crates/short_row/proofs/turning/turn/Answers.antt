use Rattle.short_row.proofs.Words.{rules, ◌≡◌, sym, subst, ◌+◌, arith, pos, to_z, of_z, w64, slice_index_or, entry, row_of_numbers, IsShort, IsShortDivisor}
use Rattle.short_row.proofs.Puts.{entry_there, low_there, turning_terms, put_begun, put_turned}
use Rattle.short_row.proofs.turning.turn.Goals as goal

pub bounds-p-c : goal.bounds-p-c
bounds-p-c c = omega (arith, c.requires.turning.size, c.requires.turning.some, c.requires.turning.pivot.candidate.column)

pub lowest-by-requires-clause-a : goal.lowest-by-requires-clause-a
lowest-by-requires-clause-a c =
    let p_is : to_z w64 (of_z w64 (slice_index_or c.args.p.now (c.args.c + 1) (pos 0))) ≡ entry (row_of_numbers c.args.unknowns c.args.p.now).coefs c.args.c =
    let there = entry_there c.args.unknowns c.args.c c.args.p.now c.requires.turning.pivot.candidate.column in search (rules, there) in
    let short = c.requires.turning.pivot.row.short.coefs c.args.c (pos 0) (omega (arith, c.requires.turning.pivot.row.row.coefs, c.requires.turning.pivot.candidate.column)) in
    subst IsShortDivisor (sym p_is) (record { positive = c.requires.turning.pivot.candidate.positive; short = short })

pub lowest-by-requires-clause-b : goal.lowest-by-requires-clause-b
lowest-by-requires-clause-b c =
    let row_is : to_z w64 (of_z w64 (slice_index_or c.args.row.now (c.args.c + 1) (pos 0))) ≡ entry (row_of_numbers c.args.unknowns c.args.row.now).coefs c.args.c =
    let there = entry_there c.args.unknowns c.args.c c.args.row.now c.requires.turning.pivot.candidate.column in search (rules, there) in
    subst IsShort (sym row_is) (c.requires.turning.row.short.coefs c.args.c (pos 0) (omega (arith, c.requires.turning.row.row.coefs, c.requires.turning.pivot.candidate.column)))

pub put_halves-made-requires-clause-terms : goal.put_halves-made-requires-clause-terms
put_halves-made-requires-clause-terms c = turning_terms c.args.unknowns c.args.p.now c.args.c c.args.row.now c.lowest-by.result.of_row c.lowest-by.result.of_pivot c.requires.turning c.lowest-by.ensures.of_row.short c.lowest-by.ensures.of_pivot

pub end_put-requires : goal.end_put-requires
end_put-requires c =
    let p_is : to_z w64 (of_z w64 (slice_index_or c.args.p.now (c.args.c + 1) (pos 0))) ≡ entry (row_of_numbers c.args.unknowns c.args.p.now).coefs c.args.c =
    let there = entry_there c.args.unknowns c.args.c c.args.p.now c.requires.turning.pivot.candidate.column in search (rules, there) in
    let row_is : to_z w64 (of_z w64 (slice_index_or c.args.row.now (c.args.c + 1) (pos 0))) ≡ entry (row_of_numbers c.args.unknowns c.args.row.now).coefs c.args.c =
    let there = entry_there c.args.unknowns c.args.c c.args.row.now c.requires.turning.pivot.candidate.column in search (rules, there) in
    let low = low_there c.args.unknowns c.args.c c.args.p.now c.args.row.now _ _ c.lowest-by.result.of_row c.lowest-by.result.of_pivot p_is row_is c.lowest-by.ensures.lowest in
    put_begun c.args.unknowns (record { by = c.lowest-by.result; column = c.args.c; made = c.put_halves-made.result }) c.args.p.now c.args.row.now c.put_halves-made.new.row c.requires.turning low c.lowest-by.ensures.of_row c.lowest-by.ensures.of_pivot
    c.put_halves-made.ensures.den c.put_halves-made.auto.row c.put_halves-made.ensures.short c.put_halves-made.ensures.count c.put_halves-made.ensures.value

pub returns : goal.returns
returns c =
    let p_is : to_z w64 (of_z w64 (slice_index_or c.args.p.now (c.args.c + 1) (pos 0))) ≡ entry (row_of_numbers c.args.unknowns c.args.p.now).coefs c.args.c =
    let there = entry_there c.args.unknowns c.args.c c.args.p.now c.requires.turning.pivot.candidate.column in search (rules, there) in
    let row_is : to_z w64 (of_z w64 (slice_index_or c.args.row.now (c.args.c + 1) (pos 0))) ≡ entry (row_of_numbers c.args.unknowns c.args.row.now).coefs c.args.c =
    let there = entry_there c.args.unknowns c.args.c c.args.row.now c.requires.turning.pivot.candidate.column in search (rules, there) in
    let low = low_there c.args.unknowns c.args.c c.args.p.now c.args.row.now _ _ c.lowest-by.result.of_row c.lowest-by.result.of_pivot p_is row_is c.lowest-by.ensures.lowest in
    put_turned c.args.unknowns (record { by = c.lowest-by.result; column = c.args.c; made = c.put_halves-made.result }) c.args.p.now c.args.row.now c.put_halves-made.new.row c.requires.turning low c.lowest-by.ensures.of_row c.lowest-by.ensures.of_pivot
    c.put_halves-made.ensures.den c.put_halves-made.auto.row c.put_halves-made.ensures.short c.put_halves-made.ensures.count c.put_halves-made.ensures.value
    c.end_put.result c.end_put.new.row c.end_put.ensures
