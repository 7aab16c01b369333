use Rattle.short_tableau.proofs.Words.{rules, ◌∙◌, ap, sym, arith, refl, List, [], IsTrue, Row, row_at, form_row, eliminated, mapped_read, mapped_step, rows_in, row_of_numbers, is_short_row}
use Rattle.short_tableau.proofs.Places.{length_rows, long_row, mapped_all, not_turned}
use Rattle.short_tableau.proofs.rows.turn_rows.Goals as goal

pub loop-i-preserved : goal.loop-i-preserved
loop-i-preserved c =
    let done : IsTrue c.turn_at.result = search rules in
    let h = length_rows c.args.pivot.now.unknowns c.args.rows c.args.numbers.now in
    record {
      dense = c.turn_at.ensures.dense done;
      rows = c.turn_at.ensures.rows done
          ∙ mapped_step (eliminated (row_of_numbers c.args.pivot.now.unknowns c.args.pivot.now.row.now) c.args.pivot.now.column) (rows_in c.args.pivot.now.unknowns c.args.rows c.args.numbers.now) (rows_in c.args.pivot.now.unknowns c.args.rows c.loop-i.numbers) c.loop-i.i _ (form_row 0 []) (omega (arith, h)) c.loop-i.invariant.rows refl;
    }

pub returns : goal.returns
returns c = record {
  dense = λ all. c.loop-i.invariant.dense;
  rows = λ all.
      let h = length_rows c.args.pivot.now.unknowns c.args.rows c.args.numbers.now in
      c.loop-i.invariant.rows ∙ mapped_all (eliminated (row_of_numbers c.args.pivot.now.unknowns c.args.pivot.now.row.now) c.args.pivot.now.column) (rows_in c.args.pivot.now.unknowns c.args.rows c.args.numbers.now) c.loop-i.i (omega (arith, h));
  long = λ none. cc;
}

pub returns-then-not-turn_at : goal.returns-then-not-turn_at
returns-then-not-turn_at c =
    let old = rows_in c.args.pivot.now.unknowns c.args.rows c.args.numbers.now in
    let h = length_rows c.args.pivot.now.unknowns c.args.rows c.args.numbers.now in
    not_turned _ _ _ _
    (long_row (eliminated (row_of_numbers c.args.pivot.now.unknowns c.args.pivot.now.row.now) c.args.pivot.now.column) old c.loop-i.i (omega (arith, h))
    (ap (λ (r : Row). is_short_row (eliminated (row_of_numbers c.args.pivot.now.unknowns c.args.pivot.now.row.now) c.args.pivot.now.column r))
    (sym (ap (λ (rs : List Row). row_at rs c.loop-i.i) c.loop-i.invariant.rows ∙ mapped_read (eliminated (row_of_numbers c.args.pivot.now.unknowns c.args.pivot.now.row.now) c.args.pivot.now.column) old c.loop-i.i (form_row 0 []) (omega (arith, h))))
    ∙ c.turn_at.ensures.long (search rules)))
