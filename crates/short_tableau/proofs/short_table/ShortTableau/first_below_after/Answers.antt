use Rattle.short_tableau.proofs.Words.{rules, ◌≡◌, ◌∙◌, sym, true, false, constant, row_at, row_of, eliminated, is_nonneg}
use Rattle.short_tableau.proofs.Ended.{negative_here, negative_next}
use Rattle.short_tableau.proofs.short_table.ShortTableau.first_below_after.Goals as goal

pub returns-then-is_below_after-clause-value : goal.returns-then-is_below_after-clause-value
returns-then-is_below_after-clause-value c =
    let below : is_nonneg (constant (eliminated (row_of c.args.p.now) c.args.c (row_at c.args.self.now.rows c.loop-i.i)).constant) ≡ false = search rules in
    sym (negative_here (eliminated (row_of c.args.p.now) c.args.c) c.args.self.now.rows c.loop-i.i (search rules) below) ∙ c.loop-i.invariant

pub loop-i-preserved : goal.loop-i-preserved
loop-i-preserved c =
    let above : is_nonneg (constant (eliminated (row_of c.args.p.now) c.args.c (row_at c.args.self.now.rows c.loop-i.i)).constant) ≡ true = search rules in
    sym (negative_next (eliminated (row_of c.args.p.now) c.args.c) c.args.self.now.rows c.loop-i.i (search rules) above) ∙ c.loop-i.invariant
