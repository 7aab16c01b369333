use Rattle.short_row.proofs.Words.{rules, refl, length-take-le, ◌≡◌, ◌∙◌, ap, sym, arith, ◌+◌, ◌≤◌, ◌++◌, length, take, drop, combine, finished, length-append, length-drop}
use Rattle.short_row.proofs.Puts.{further, further_put, same_put, rest_terms, behind_short}
use Rattle.short_row.proofs.put.extend.Goals as goal

pub combine-requires : goal.combine-requires
combine-requires c =
    let terms = rest_terms c.args.unknowns c.args.put.now c.args.p.now c.args.row.now c.split_at_mut-rest.result.1.now c.split_at.result.1.now c.requires (search rules) (search rules) in
    search (rules, terms)

pub returns-clause-row : goal.returns-clause-row
returns-clause-row c =
    let w = c.args.put.now in
    let value : finished c.args.put.now.by.of_row c.combine.new.r c.args.put.now.by.of_pivot c.split_at.result.1.now c.combine.result
    ≡ combine c.args.put.now.by.of_row c.split_at_mut-rest.result.1.now c.args.put.now.by.of_pivot c.split_at.result.1.now = search rules in
    let more = further w.by.of_row w.by.of_pivot w.made c.combine.result c.args.row.now c.args.p.now c.split_at_mut-rest.result.0.now c.split_at_mut-rest.result.1.now c.combine.new.r c.split_at.result.1.now
    (search rules) (search rules) (search rules) c.requires.made (sym c.requires.size) c.combine.auto.r value in
    same_put c.args.unknowns w _ c.args.p.now c.args.row.now (c.split_at_mut-rest.result.0.now ++ c.combine.new.r) refl refl refl
    more.0 more.1

pub returns-clause-put : goal.returns-clause-put
returns-clause-put c =
    let w = c.args.put.now in
    let value : finished c.args.put.now.by.of_row c.combine.new.r c.args.put.now.by.of_pivot c.split_at.result.1.now c.combine.result
    ≡ combine c.args.put.now.by.of_row c.split_at_mut-rest.result.1.now c.args.put.now.by.of_pivot c.split_at.result.1.now = search rules in
    let within : c.args.put.now.made + 1 ≤ length c.args.row.now = c.requires.made in
    let same = sym c.requires.size in
    let more = further w.by.of_row w.by.of_pivot w.made c.combine.result c.args.row.now c.args.p.now c.split_at_mut-rest.result.0.now c.split_at_mut-rest.result.1.now c.combine.new.r c.split_at.result.1.now
    (search rules) (search rules) (search rules) within same c.combine.auto.r value in
    let front_is : c.split_at_mut-rest.result.0.now ≡ take (c.args.put.now.made + 1) c.args.row.now = search rules in
    let rest_is : c.split_at_mut-rest.result.1.now ≡ drop (c.args.put.now.made + 1) c.args.row.now = search rules in
    let front_size = ap length front_is ∙ length-take-le (w.made + 1) c.args.row.now within in
    let rest_size = ap length rest_is ∙ length-drop (w.made + 1) c.args.row.now in
    let size = length-append c.split_at_mut-rest.result.0.now c.combine.new.r in
    further_put c.args.unknowns w _ c.args.p.now c.args.row.now (c.split_at_mut-rest.result.0.now ++ c.combine.new.r) c.requires refl refl refl
    more.0 more.1
    (omega (arith, size, front_size, rest_size, c.combine.auto.r, within))
    (behind_short w.made c.split_at_mut-rest.result.0.now c.combine.new.r c.args.row.now front_is c.requires.terms.row c.combine.ensures.short)
    (omega (arith, c.combine.ensures.count, rest_size, within, size, front_size, c.combine.auto.r))
