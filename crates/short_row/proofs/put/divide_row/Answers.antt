use Rattle.short_row.proofs.Words.{rules, ◌≡◌, ap, ◌∙◌, pos, drop, gcd, gcd_of, gcd_one, row_of_numbers, scale, content}
use Rattle.short_row.proofs.Puts.{divided_already}
use Rattle.short_row.proofs.Wholes.{row_divided}
use Rattle.short_row.proofs.put.divide_row.Goals as goal

pub returns-then-start-eq1-clause-value : goal.returns-then-start-eq1-clause-value
returns-then-start-eq1-clause-value c =
    let unit : c.args.start ≡ pos 1 = search rules in
    let one : content (row_of_numbers c.args.unknowns c.args.row.now) ≡ pos 1 = c.requires.content ∙ ap (λ z. gcd z (gcd_of (drop 1 c.args.row.now))) unit ∙ gcd_one (gcd_of (drop 1 c.args.row.now)) in
    divided_already (row_of_numbers c.args.unknowns c.args.row.now) one

pub returns-then-is_half-clause-value : goal.returns-then-is_half-clause-value
returns-then-is_half-clause-value c =
    let value : c.divide_common.result ≡ gcd c.args.start (gcd_of c.args.row.now) = search rules in
    let whole : scale c.divide_common.result c.divide_common.new.entries ≡ c.args.row.now = search rules in
    row_divided c.args.unknowns c.divide_common.result c.args.start c.args.row.now c.divide_common.new.entries c.requires.some c.divide_common.ensures.positive value c.requires.content whole
