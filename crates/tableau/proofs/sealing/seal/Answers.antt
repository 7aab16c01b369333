use Rattle.tableau.proofs.Words.{rules, ◌≡◌, false, take, drop, row_of_numbers, is_unit_row}
use Rattle.tableau.proofs.Flat.{sealed, sealed_rows, with_unit}
use Rattle.tableau.proofs.sealing.seal.Goals as goal

pub returns-in-Some-clause-flat : goal.returns-in-Some-clause-flat
returns-in-Some-clause-flat c =
    let whole = with_unit c.args.unknowns c.args.width c.in-Some.c (take c.args.last.first c.args.numbers.now.items) c.args.kept.now.items c.requires.unsealed.flat (search rules) in
    rw (c.truncate.ensures.items, c.append_kept.ensures.items) whole

pub returns-in-None-clause-flat : goal.returns-in-None-clause-flat
returns-in-None-clause-flat c =
    let plain : is_unit_row (row_of_numbers c.args.unknowns (drop c.args.last.first c.args.numbers.now.items)) ≡ false = search rules in
    rw c.append_kept-in-None.ensures.items (sealed c.args.unknowns c.args.width c.args.last c.args.numbers.now.items c.args.kept.now.items c.requires.unsealed plain)

pub returns-in-None-clause-rows : goal.returns-in-None-clause-rows
returns-in-None-clause-rows c =
    rw c.append_kept-in-None.ensures.items (sealed_rows c.args.unknowns c.args.width c.args.last c.args.numbers.now.items c.args.kept.now.items c.requires.unsealed)
