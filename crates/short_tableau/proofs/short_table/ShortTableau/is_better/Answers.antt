use Rattle.short_tableau.proofs.Words.{rules, arith, sym, ◌∙◌, ◌≡◌, to_z, of_z, int_lt, w128, row_of, product_at}
use Rattle.row_laws.proofs.Comparisons.{better_same, better_differ}
use Rattle.short_tableau.proofs.short_table.ShortTableau.is_better.Goals as goal

pub returns-then-of_k-of_b : goal.returns-then-of_k-of_b
returns-then-of_k-of_b c =
    let differ : product_at c.args.self.now.rows c.loop-i.i (row_of c.args.p.now) c.args.k c.args.b ≡ product_at c.args.self.now.rows c.loop-i.i (row_of c.args.p.now) c.args.b c.args.k → ⊥ = search rules in
    let is : int_lt (to_z w128 (of_z w128 c.products_at-of_k.result.of_k)) (to_z w128 (of_z w128 c.products_at-of_k.result.of_b))
    ≡ int_lt (product_at c.args.self.now.rows c.loop-i.i (row_of c.args.p.now) c.args.k c.args.b) (product_at c.args.self.now.rows c.loop-i.i (row_of c.args.p.now) c.args.b c.args.k) = search rules in
    is ∙ sym (better_differ c.args.self.now.unknowns c.args.self.now.rows (row_of c.args.p.now) c.args.k c.args.b c.loop-i.i c.requires.rows (omega arith) differ) ∙ c.loop-i.invariant

pub loop-i-preserved : goal.loop-i-preserved
loop-i-preserved c =
    let same : product_at c.args.self.now.rows c.loop-i.i (row_of c.args.p.now) c.args.k c.args.b ≡ product_at c.args.self.now.rows c.loop-i.i (row_of c.args.p.now) c.args.b c.args.k = search rules in
    sym (better_same c.args.self.now.unknowns c.args.self.now.rows (row_of c.args.p.now) c.args.k c.args.b c.loop-i.i c.requires.rows (omega arith) same) ∙ c.loop-i.invariant
