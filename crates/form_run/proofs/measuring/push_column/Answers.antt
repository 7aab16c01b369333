use Rattle.form_run.proofs.Words.{rules, arith, ◌≡◌, ◌++◌, ◌∷◌, [], ◌≤◌, ◌*ℤ◌, subst, ℤ, unsigned_abs, floor_div, row_at, part, items_more, within_more, over_taken}
use Rattle.form_run.proofs.measuring.push_column.Goals as goal

pub loop-j-preserved : goal.loop-j-preserved
loop-j-preserved c =
    let own : c.in-Some.z ≡ floor_div c.loop-j.basis.scale (row_at c.args.rows.now.rows c.loop-j.j).den *ℤ part c.args.rows.now.unknowns c.args.k (row_at c.args.rows.now.rows c.loop-j.j) = search rules in
    let made : c.in-Some.z ≡ floor_div c.args.basis.now.scale (row_at c.args.rows.now.rows c.loop-j.j).den *ℤ part c.args.rows.now.unknowns c.args.k (row_at c.args.rows.now.rows c.loop-j.j)
    = subst (λ (L : ℤ). c.in-Some.z ≡ floor_div L (row_at c.args.rows.now.rows c.loop-j.j).den *ℤ part c.args.rows.now.unknowns c.args.k (row_at c.args.rows.now.rows c.loop-j.j)) c.loop-j.invariant.scale own in
    let pushed : c.push.new.numbers.items ≡ c.loop-j.basis.columns.items ++ c.in-Some.z ∷ [] = search rules in
    let size : unsigned_abs c.in-Some.z ≤ c.with_size-basis.result = search rules in
    record {
      items = items_more c.args.basis.now.columns.items c.loop-j.basis.columns.items c.push.new.numbers.items c.args.basis.now.scale (part c.args.rows.now.unknowns c.args.k) c.args.rows.now.rows c.loop-j.j c.in-Some.z (search rules) c.loop-j.invariant.items pushed made;
      within = within_more c.loop-j.basis.columns.items c.push.new.numbers.items c.in-Some.z c.loop-j.basis.most c.with_size-basis.result c.loop-j.invariant.within pushed c.with_size-basis.ensures.most size;
      most = omega (arith, c.loop-j.invariant.most, c.with_size-basis.ensures.most);
      scale = c.loop-j.invariant.scale;
      factors = c.loop-j.invariant.factors;
    }

pub returns-clause-items : goal.returns-clause-items
returns-clause-items c =
    let all = over_taken c.args.basis.now.scale (part c.args.rows.now.unknowns c.args.k) c.args.rows.now.rows c.loop-j.j (search rules) in
    search (rules, c.loop-j.invariant.items, all)
