use Rattle.short_row.proofs.Words.{rules, ◌≡◌, ap, ◌∙◌, row_of_numbers, floor_divided, content}
use Rattle.short_row.proofs.Puts.{numbers_divided, divided_already}
use Rattle.short_row.proofs.put.divide_found.Goals as goal

pub returns-then-divisor-ne1-clause-value : goal.returns-then-divisor-ne1-clause-value
returns-then-divisor-ne1-clause-value c =
    let divisor : c.gcd_with-divisor.result ≡ content (row_of_numbers c.args.unknowns c.args.row.now) = search rules in
    let made : c.divide_all.new.entries ≡ floor_divided c.gcd_with-divisor.result c.args.row.now = search rules in
    ap (row_of_numbers c.args.unknowns) made ∙ numbers_divided c.args.unknowns c.args.row.now c.gcd_with-divisor.result c.requires.some divisor

pub returns-else-divisor-ne1-clause-value : goal.returns-else-divisor-ne1-clause-value
returns-else-divisor-ne1-clause-value c = divided_already (row_of_numbers c.args.unknowns c.args.row.now) (search rules)
