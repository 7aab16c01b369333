use Rattle.short_tableau.proofs.Words.{rules, ◌≡◌, ◌∙◌, ap, sym, pos, [], set-get_or, entry, Row, row_at, form_row, eliminated, eliminated_none, rows_in, row_of_numbers, is_short_row}
use Rattle.std.proofs.Common.{slice_set}
use Rattle.short_tableau.proofs.Places.{dense_row, split_twice, split_read, split_row, split_turned, split_dense}
use Rattle.short_tableau.proofs.OneRow.{is_turning, over_no_places}
use Rattle.short_tableau.proofs.rows.turn_at.Goals as goal

pub turn-requires-clause-turning : goal.turn-requires-clause-turning
turn-requires-clause-turning c =
    let split = split_twice c.args.pivot.now.unknowns c.args.rows c.args.i c.place_of-place.result c.args.numbers.now c.split_at_mut-behind.result.0.now c.split_at_mut-behind.result.1.now c.split_at_mut-row.result.0.now c.split_at_mut-row.result.1.now
    c.requires.dense c.requires.row (search rules) (search rules) c.split_at_mut-behind.ensures.front c.split_at_mut-behind.ensures.back c.split_at_mut-row.ensures.front c.split_at_mut-row.ensures.back in
    is_turning c.args.pivot.now.unknowns c.args.pivot.now.row.now c.args.pivot.now.column c.split_at_mut-row.result.0.now c.args.pivot.now.size split.parts.mid_size (split_row _ _ _ _ _ _ _ split) c.args.pivot.now.solvable

pub returns : goal.returns
returns c =
    let split = split_twice c.args.pivot.now.unknowns c.args.rows c.args.i c.place_of-place.result c.args.numbers.now c.split_at_mut-behind.result.0.now c.split_at_mut-behind.result.1.now c.split_at_mut-row.result.0.now c.split_at_mut-row.result.1.now
    c.requires.dense c.requires.row (search rules) (search rules) c.split_at_mut-behind.ensures.front c.split_at_mut-behind.ensures.back c.split_at_mut-row.ensures.front c.split_at_mut-row.ensures.back in
    record {
      dense = λ all. split_dense _ _ _ _ _ _ _ split c.turn.new.row c.turn.auto.row (over_no_places c.args.pivot.now.unknowns c.turn.new.row _ (c.turn.auto.row ∙ split.parts.mid_size) (c.turn.ensures.row all));
      rows = λ all. split_turned _ _ _ _ _ _ _ split c.turn.new.row c.turn.auto.row (eliminated (row_of_numbers c.args.pivot.now.unknowns c.args.pivot.now.row.now) c.args.pivot.now.column) (c.turn.ensures.value all);
      long = λ none. ap (λ (r : Row). is_short_row (eliminated (row_of_numbers c.args.pivot.now.unknowns c.args.pivot.now.row.now) c.args.pivot.now.column r)) (split_read _ _ _ _ _ _ _ split) ∙ c.turn.ensures.long none;
    }

pub returns-then-coef_at-eq0-clause-rows : goal.returns-then-coef_at-eq0-clause-rows
returns-then-coef_at-eq0-clause-rows c = λ all.
    let rows = rows_in c.args.pivot.now.unknowns c.args.rows c.args.numbers.now in
    let none : entry (row_at (rows_in c.args.pivot.now.unknowns c.args.rows c.args.numbers.now) c.args.i).coefs c.args.pivot.now.column ≡ pos 0 = search rules in
    let p = c.args.pivot.now.solvable in
    let row = dense_row c.args.pivot.now.unknowns c.args.rows c.args.i c.args.numbers.now c.requires.dense c.requires.row in
    let stay = eliminated_none c.args.pivot.now.unknowns 0 (row_of_numbers c.args.pivot.now.unknowns c.args.pivot.now.row.now) c.args.pivot.now.column (row_at rows c.args.i) p.row.row row.row p.candidate.positive none row.reduced in
    sym (ap (λ (r : Row). slice_set (rows_in c.args.pivot.now.unknowns c.args.rows c.args.numbers.now) c.args.i r) (sym stay) ∙ set-get_or rows c.args.i (form_row 0 []))
