use Rattle.short_tableau.proofs.Words.{rules, ◌≡◌, pos, [], entry, form_row, row_at, row_of}
use Rattle.short_tableau.proofs.Ended.{nonneg_stays, nonneg_after}
use Rattle.short_tableau.proofs.short_table.ShortTableau.is_below_after.Goals as goal

pub returns-then-coef-eq0 : goal.returns-then-coef-eq0
returns-then-coef-eq0 c =
    let row = c.columns.ensures.rows c.args.i (form_row 0 []) c.requires.row in
    let none : entry (row_at c.args.self.now.rows c.args.i).coefs c.args.c ≡ pos 0 = search rules in
    let same = nonneg_stays c.args.self.now.unknowns (row_of c.args.p.now) c.args.c (row_at c.args.self.now.rows c.args.i) c.requires.pivot row none in
    search (rules, same)

pub returns : goal.returns
returns c =
    let row = c.columns.ensures.rows c.args.i (form_row 0 []) c.requires.row in
    let same = nonneg_after c.args.self.now.unknowns (row_of c.args.p.now) c.args.c (row_at c.args.self.now.rows c.args.i) c.requires.pivot row in
    search (rules, same)
