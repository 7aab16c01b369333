use Rattle.short_tableau.proofs.Words.{rules, ◌≡◌, true, constant, row_at, row_of, substituted, ◌∙◌, pos, [], entry, divides, is_whole, form_row}
use Rattle.short_tableau.proofs.Ended.{whole_after, whole_stays}
use Rattle.short_tableau.proofs.short_table.ShortTableau.is_whole_after.Goals as goal

pub returns-then-coef-eq0 : goal.returns-then-coef-eq0
returns-then-coef-eq0 c = λ all.
    let row = c.columns.ensures.rows c.args.i (form_row 0 []) c.requires.row in
    let none : entry (row_at c.args.self.now.rows c.args.i).coefs c.args.c ≡ pos 0 = search rules in
    let whole : is_whole (row_at c.args.self.now.rows c.args.i).den (row_at c.args.self.now.rows c.args.i).constant ≡ true = search rules in
    whole_stays c.args.self.now.unknowns (row_of c.args.p.now) c.args.c (row_at c.args.self.now.rows c.args.i) c.requires.pivot row none ∙ whole

pub returns : goal.returns
returns c = λ all.
    let p = row_of c.args.p.now in
    let divides_it : divides (substituted (row_of c.args.p.now) c.args.c (row_at c.args.self.now.rows c.args.i)).den (constant (substituted (row_of c.args.p.now) c.args.c (row_at c.args.self.now.rows c.args.i)).constant) ≡ true = search rules in
    whole_after c.args.self.now.unknowns p c.args.c (row_at c.args.self.now.rows c.args.i) c.requires.pivot c.den_after.ensures.row divides_it
