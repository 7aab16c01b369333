use Rattle.short_tableau.proofs.Words.{rules, ◌≡◌, ℕ, arith, false, entry, form_row, row_at, substituted, eliminated, is_positive, row_of, []}
use Rattle.short_tableau.proofs.Ended.{positive_after, coefs_after, one_more, none_positive}
use Rattle.short_tableau.proofs.short_table.ShortTableau.has_positive_after.Goals as goal

pub loop-k-preserved : goal.loop-k-preserved
loop-k-preserved c =
    let n = c.args.self.now.unknowns in
    let p = row_of c.args.p.now in
    let row = c.columns-k-end.ensures.rows c.args.i (form_row 0 []) c.requires.row in
    let none : is_positive (entry (substituted (row_of c.args.p.now) c.args.c (row_at c.args.self.now.rows c.args.i)).coefs c.loop-k.k) ≡ false = search rules in
    let here = positive_after n p c.args.c (row_at c.args.self.now.rows c.args.i) c.requires.pivot row c.loop-k.k (search rules) none in
    λ k. one_more (λ (j : ℕ). is_positive (entry (eliminated (row_of c.args.p.now) c.args.c (row_at c.args.self.now.rows c.args.i)).coefs j) ≡ false) c.loop-k.k k c.loop-k.invariant here

pub returns : goal.returns
returns c = λ no.
    let p = row_of c.args.p.now in
    let row = c.columns-k-end.ensures.rows c.args.i (form_row 0 []) c.requires.row in
    let long = coefs_after c.args.self.now.unknowns p c.args.c (row_at c.args.self.now.rows c.args.i) c.requires.pivot row in
    none_positive _ (λ k h. c.loop-k.invariant k (omega (arith, h, long, c.columns-k-end.ensures.value, c.loop-k-test.false)))
