use Rattle.short_tableau.proofs.Words.{rules, unit_reduced}
use Rattle.short_tableau.proofs.Places.{split_twice, split_front, split_back, split_pivot, pivot_made, long_before, long_behind}
use Rattle.short_tableau.proofs.OneRow.{unit_made}
use Rattle.short_tableau.proofs.rows.pivot_rows.Goals as goal

pub invariant_of-pivot : goal.invariant_of-pivot
invariant_of-pivot c =
    let split = split_twice c.args.unknowns c.args.rows c.args.r c.place_of-place.result c.args.numbers.now c.split_at_mut-front.result.0.now c.split_at_mut-front.result.1.now c.split_at_mut-row.result.0.now c.split_at_mut-row.result.1.now
    c.requires.dense c.requires.row (search rules) (search rules) c.split_at_mut-front.ensures.front c.split_at_mut-front.ensures.back c.split_at_mut-row.ensures.front c.split_at_mut-row.ensures.back in
    record { size = split.parts.mid_size; solvable = split_pivot _ _ _ c.args.c _ _ _ _ split c.requires.candidate; listed = c.nonzeros_of-nonzeros.ensures }

pub turn_rows-requires : goal.turn_rows-requires
turn_rows-requires c =
    let split = split_twice c.args.unknowns c.args.rows c.args.r c.place_of-place.result c.args.numbers.now c.split_at_mut-front.result.0.now c.split_at_mut-front.result.1.now c.split_at_mut-row.result.0.now c.split_at_mut-row.result.1.now
    c.requires.dense c.requires.row (search rules) (search rules) c.split_at_mut-front.ensures.front c.split_at_mut-front.ensures.back c.split_at_mut-row.ensures.front c.split_at_mut-row.ensures.back in
    split_front _ _ _ _ _ _ _ split

pub turn_rows-requires-2 : goal.turn_rows-requires-2
turn_rows-requires-2 c =
    let split = split_twice c.args.unknowns c.args.rows c.args.r c.place_of-place.result c.args.numbers.now c.split_at_mut-front.result.0.now c.split_at_mut-front.result.1.now c.split_at_mut-row.result.0.now c.split_at_mut-row.result.1.now
    c.requires.dense c.requires.row (search rules) (search rules) c.split_at_mut-front.ensures.front c.split_at_mut-front.ensures.back c.split_at_mut-row.ensures.front c.split_at_mut-row.ensures.back in
    split_back _ _ _ _ _ _ _ split

pub returns-then-not-turn_rows : goal.returns-then-not-turn_rows
returns-then-not-turn_rows c =
    let split = split_twice c.args.unknowns c.args.rows c.args.r c.place_of-place.result c.args.numbers.now c.split_at_mut-front.result.0.now c.split_at_mut-front.result.1.now c.split_at_mut-row.result.0.now c.split_at_mut-row.result.1.now
    c.requires.dense c.requires.row (search rules) (search rules) c.split_at_mut-front.ensures.front c.split_at_mut-front.ensures.back c.split_at_mut-row.ensures.front c.split_at_mut-row.ensures.back in
    long_before _ _ _ _ _ _ _ _ split _ (c.turn_rows.ensures.long (search rules))

pub returns-then-not-turn_rows-2 : goal.returns-then-not-turn_rows-2
returns-then-not-turn_rows-2 c =
    let split = split_twice c.args.unknowns c.args.rows c.args.r c.place_of-place.result c.args.numbers.now c.split_at_mut-front.result.0.now c.split_at_mut-front.result.1.now c.split_at_mut-row.result.0.now c.split_at_mut-row.result.1.now
    c.requires.dense c.requires.row (search rules) (search rules) c.split_at_mut-front.ensures.front c.split_at_mut-front.ensures.back c.split_at_mut-row.ensures.front c.split_at_mut-row.ensures.back in
    long_behind _ _ _ _ _ _ _ _ split _ (c.turn_rows-2.ensures.long (search rules))

pub returns : goal.returns
returns c =
    let split = split_twice c.args.unknowns c.args.rows c.args.r c.place_of-place.result c.args.numbers.now c.split_at_mut-front.result.0.now c.split_at_mut-front.result.1.now c.split_at_mut-row.result.0.now c.split_at_mut-row.result.1.now
    c.requires.dense c.requires.row (search rules) (search rules) c.split_at_mut-front.ensures.front c.split_at_mut-front.ensures.back c.split_at_mut-row.ensures.front c.split_at_mut-row.ensures.back in
    pivot_made _ _ _ _ _ _ _ _ split c.turn_rows.new.numbers c.make_unit.new.row c.turn_rows-2.new.numbers _ _ c.make_unit.auto.row (unit_reduced c.args.unknowns 0 c.args.c c.requires.candidate.column) (unit_made c.args.unknowns c.args.c c.split_at_mut-row.result.0.now _ split.parts.mid_size c.make_unit.ensures)
    c.turn_rows.ensures (search rules) c.turn_rows-2.ensures (search rules)
