use Rattle.tableau.proofs.Words.{◌∙◌, ap, sym, map, widened, row_kept, with_rows, map-map}
use Rattle.tableau.proofs.flat_rows.FlatRows.widen.Goals as goal

pub returns : goal.returns
returns c =
    let l = c.lent.result.0 in
    c.widen_rows.ensures
    ∙ ap (with_rows c.args.next.now) (sym (map-map widened (row_kept l.unknowns l.width l.numbers.now) c.lent.result.1.now) ∙ ap (map widened) c.lent.ensures.rows)
