use Rattle.short_tableau.proofs.Words.{rules, ◌≡◌, ◌∙◌, ◌+◌, arith, length-append, ap, subst, length, ◌++◌, take, drop, List, ℤ, slice_range, take_at, drop_at, row_size, IsShortReduced}
use Rattle.short_tableau.proofs.Cutting.{copied_short, made_row, made_numbers}
use Rattle.short_tableau.proofs.cuts.push_cut_row.Goals as goal

pub make_cut-requires-clause-row : goal.make_cut-requires-clause-row
make_cut-requires-clause-row c =
    let zs = c.args.numbers.now.items in
    let p = c.place_of-place.result in
    let range = slice_range zs p (p + row_size c.args.unknowns) in
    let items : c.extend_from_within.new.self.items ≡ c.args.numbers.now.items ++ slice_range c.args.numbers.now.items c.place_of-place.result (c.place_of-place.result + row_size c.args.unknowns) = c.in_ok-extend_from_within.ensures.items in
    let all : c.deref_mut.result.now ≡ c.extend_from_within.new.self.items = search rules in
    let copy : c.split_at_mut-row.result.1.now ≡ slice_range c.args.numbers.now.items c.place_of-place.result (c.place_of-place.result + row_size c.args.unknowns)
    = c.split_at_mut-row.ensures.back ∙ ap (λ (xs : List ℤ). drop c.len-before.result xs) (all ∙ items) ∙ drop_at zs range c.len-before.result (search rules) in
    copied_short c.args.unknowns c.args.rows c.args.i zs c.requires.dense c.requires.row p (search rules) (search rules) c.split_at_mut-row.result.1.now copy

pub returns : goal.returns
returns c =
    let zs = c.args.numbers.now.items in
    let p = c.place_of-place.result in
    let range = slice_range zs p (p + row_size c.args.unknowns) in
    let items : c.extend_from_within.new.self.items ≡ c.args.numbers.now.items ++ slice_range c.args.numbers.now.items c.place_of-place.result (c.place_of-place.result + row_size c.args.unknowns) = c.in_ok-extend_from_within.ensures.items in
    let all : c.deref_mut.result.now ≡ c.extend_from_within.new.self.items = search rules in
    let copy : c.split_at_mut-row.result.1.now ≡ slice_range c.args.numbers.now.items c.place_of-place.result (c.place_of-place.result + row_size c.args.unknowns)
    = c.split_at_mut-row.ensures.back ∙ ap (λ (xs : List ℤ). drop c.len-before.result xs) (all ∙ items) ∙ drop_at zs range c.len-before.result (search rules) in
    let row = made_row c.args.unknowns c.args.rows c.args.i zs c.requires.dense c.requires.row p (search rules) (search rules) c.split_at_mut-row.result.1.now copy c.make_cut.new.row c.make_cut.auto.row c.make_cut.ensures.value in
    let made = made_numbers c.args.unknowns c.args.rows c.args.i zs c.requires.dense c.requires.row p (search rules) (search rules) c.split_at_mut-row.result.1.now copy c.make_cut.new.row c.make_cut.auto.row c.make_cut.ensures.value in
    let front : c.split_at_mut-row.result.0.now ≡ c.args.numbers.now.items
    = c.split_at_mut-row.ensures.front ∙ ap (λ (xs : List ℤ). take c.len-before.result xs) (all ∙ items) ∙ take_at zs range c.len-before.result (search rules) in
    let size : length (c.split_at_mut-row.result.0.now ++ c.make_cut.new.row) ≡ c.extend_from_within.new.self.len
    = omega (arith, length-append c.split_at_mut-row.result.0.now c.make_cut.new.row, length-append c.split_at_mut-row.result.0.now c.split_at_mut-row.result.1.now, c.make_cut.auto.row, ap length c.split_at_mut-row.ensures.value, c.deref_mut.ensures.len) in
    record {
      ok = take_at (c.split_at_mut-row.result.0.now ++ c.make_cut.new.row) _ c.extend_from_within.new.self.len size
          ∙ ap (λ (xs : List ℤ). xs ++ c.make_cut.new.row) front
          ∙ ap (λ (xs : List ℤ). c.args.numbers.now.items ++ xs) made;
      row = subst (IsShortReduced c.args.unknowns 0) row c.make_cut.ensures.row;
      err = search rules;
    }
