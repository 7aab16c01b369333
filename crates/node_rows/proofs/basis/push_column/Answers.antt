use Rattle.node_rows.proofs.Words.{rules, arith, ◌≡◌, [], ◌∷◌, ◌++◌, part, items_more, within_more, over_taken}
use Rattle.node_rows.proofs.basis.push_column.Goals as goal

pub loop-j-preserved : goal.loop-j-preserved
loop-j-preserved c =
    let pushed : c.push.new.numbers.items ≡ c.loop-j.columns.items ++ c.in_ok-z.z ∷ [] = search rules in
    record {
      items = items_more c.args.columns.now.items c.loop-j.columns.items c.push.new.numbers.items _ (part c.args.rows.now.unknowns c.args.k) c.args.rows.now.rows c.loop-j.j c.in_ok-z.z (omega (arith, c.loop-j-test.true, c.rows-j-end.ensures)) c.loop-j.invariant.items pushed c.in_ok-z.ensures;
      within = within_more c.loop-j.columns.items c.push.new.numbers.items c.in_ok-z.z c.loop-j.greatest c.with_size-greatest.result c.loop-j.invariant.within pushed c.with_size-greatest.ensures.most (search rules);
      most = omega (arith, c.loop-j.invariant.most, c.with_size-greatest.ensures.most);
    }

pub returns-clause-items : goal.returns-clause-items
returns-clause-items c =
    let all = over_taken c.args.scale (part c.args.rows.now.unknowns c.args.k) c.args.rows.now.rows c.loop-j.j (search rules) in
    search (rules, c.loop-j.invariant.items, all)
