use Rattle.tableau.proofs.Words.{◌∙◌, ap, rules, List, Row, row_at, row_kept}
use Rattle.tableau.proofs.Sides.{row_is}
use Rattle.tableau.proofs.flat_rows.FlatRows.row.Goals as goal

pub returns-clause-value : goal.returns-clause-value
returns-clause-value c =
    let l = c.lent.result.0 in
    c.row.ensures ∙ row_is (row_kept l.unknowns l.width l.numbers.now) c.lent.result.1.now c.args.i _ (search rules)
    ∙ ap (λ (rows : List Row). row_at rows c.args.i) c.lent.ensures.rows
