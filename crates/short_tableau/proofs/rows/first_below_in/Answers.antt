use Rattle.short_tableau.proofs.Words.{rules, ◌≡◌, refl, [], true, is_nonneg, constant, row_at, form_row, drop_more, ◌∙◌, ap, sym, arith, drop_all, negative_from, rows_in}
use Rattle.short_tableau.proofs.Places.{length_rows}
use Rattle.short_tableau.proofs.Entries.{not_below}
use Rattle.short_tableau.proofs.rows.first_below_in.Goals as goal

pub loop-i-preserved : goal.loop-i-preserved
loop-i-preserved c =
    let rows = rows_in c.args.unknowns c.args.rows c.args.numbers.now in
    let above : is_nonneg (constant (row_at (rows_in c.args.unknowns c.args.rows c.args.numbers.now) c.loop-i.i).constant) ≡ true = not_below c.constant_at.result _ c.constant_at.ensures (search rules) in
    let more = drop_more rows c.loop-i.i (form_row 0 []) (omega (arith, length_rows c.args.unknowns c.args.rows c.args.numbers.now, c.loop-i-test.true)) in
    sym (ap (negative_from c.loop-i.i) more ∙ rw above refl) ∙ c.loop-i.invariant

pub returns-clause-value : goal.returns-clause-value
returns-clause-value c =
    let rows = rows_in c.args.unknowns c.args.rows c.args.numbers.now in
    let h = length_rows c.args.unknowns c.args.rows c.args.numbers.now in
    ap (negative_from c.loop-i.i) (sym (drop_all c.loop-i.i rows (omega (arith, h)))) ∙ c.loop-i.invariant
