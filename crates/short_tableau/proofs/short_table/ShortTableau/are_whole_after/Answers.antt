use Rattle.short_tableau.proofs.Words.{rules, ◌≡◌, ◌∙◌, sym, true, row_at, row_of, eliminated, is_whole}
use Rattle.short_tableau.proofs.Ended.{fraction_next}
use Rattle.short_tableau.proofs.short_table.ShortTableau.are_whole_after.Goals as goal

pub loop-i-preserved : goal.loop-i-preserved
loop-i-preserved c =
    let whole : is_whole (eliminated (row_of c.args.p.now) c.args.c (row_at c.args.self.now.rows c.loop-i.i)).den (eliminated (row_of c.args.p.now) c.args.c (row_at c.args.self.now.rows c.loop-i.i)).constant ≡ true = search rules in
    sym (fraction_next (eliminated (row_of c.args.p.now) c.args.c) c.args.self.now.rows c.loop-i.i (search rules) c.args.self.now.unknowns (search rules) c.requires.rows whole) ∙ c.loop-i.invariant
