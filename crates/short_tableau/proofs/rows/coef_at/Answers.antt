use Rattle.short_tableau.proofs.Words.{rules, arith, sym, subst, ◌≡◌, ◌+◌, pos, to_z, of_z, entry, row_at, IsShort, rows_in, slice_index_or}
use Rattle.std.proofs.Common.{w64}
use Rattle.short_tableau.proofs.Entries.{coef_here}
use Rattle.short_tableau.proofs.Places.{dense_row}
use Rattle.short_tableau.proofs.rows.coef_at.Goals as goal

pub returns-clause-value : goal.returns-clause-value
returns-clause-value c =
    let here = coef_here c.args.unknowns c.args.rows c.args.i c.args.k c.args.numbers.now c.requires.dense.size c.requires.row c.requires.column in
    search (rules, here, c.place_of.ensures.value)

pub returns-clause-short : goal.returns-clause-short
returns-clause-short c =
    let here = coef_here c.args.unknowns c.args.rows c.args.i c.args.k c.args.numbers.now c.requires.dense.size c.requires.row c.requires.column in
    let place = c.place_of.ensures.value in
    let value : to_z w64 (of_z w64 (slice_index_or c.args.numbers.now (c.place_of.result + (1 + c.args.k)) (pos 0))) ≡ entry (row_at (rows_in c.args.unknowns c.args.rows c.args.numbers.now) c.args.i).coefs c.args.k
    = search (rules, here, place) in
    let r = dense_row c.args.unknowns c.args.rows c.args.i c.args.numbers.now c.requires.dense c.requires.row in
    subst IsShort (sym value) (r.short.coefs c.args.k (pos 0) (omega (arith, r.row.coefs, c.requires.column)))
