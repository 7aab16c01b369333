use Rattle.tableau_row.proofs.Words.{rules, ◌∙◌, sym, subst, ap, All, IsShort, w64, to_z-of_z, drop, gcd, gcd_of, floor_divided, divided, row_of_numbers}
use Rattle.tableau_row.proofs.Found.{divided_numbers, divided_short, row_of_short, short_of_numbers}
use Rattle.tableau_row.proofs.row.divide_from.Goals as goal

pub divide_run-requires-clause-short : goal.divide_run-requires-clause-short
divide_run-requires-clause-short c = short_of_numbers c.args.unknowns c.args.numbers.now c.requires.length (c.requires.short (search rules))

pub returns-clause-value : goal.returns-clause-value
returns-clause-value c =
    c.divide_run.ensures.value ∙ ap (λ z. floor_divided (gcd z (gcd_of (drop 1 c.args.numbers.now))) c.args.numbers.now) (to_z-of_z w64 c.args.start c.ranges.start) ∙ divided_numbers c.args.unknowns c.args.numbers.now _ c.requires.length (sym c.requires.divisor)

pub returns-clause-made : goal.returns-clause-made
returns-clause-made c =
    let r = row_of_numbers c.args.unknowns c.args.numbers.now in
    let value = c.divide_run.ensures.value ∙ ap (λ z. floor_divided (gcd z (gcd_of (drop 1 c.args.numbers.now))) c.args.numbers.now) (to_z-of_z w64 c.args.start c.ranges.start) ∙ divided_numbers c.args.unknowns c.args.numbers.now _ c.requires.length (sym c.requires.divisor) in
    divided_short r c.requires.row (row_of_short (divided r) (subst (All IsShort) value c.divide_run.ensures.short))
