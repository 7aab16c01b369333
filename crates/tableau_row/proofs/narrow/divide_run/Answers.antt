use Rattle.tableau_row.proofs.Words.{rules, ◌≡◌, ◌∙◌, sym, ap, pos, drop, gcd, gcd_of, floor_divided, floor_divided_one}
use Rattle.tableau_row.proofs.narrow.divide_run.Goals as goal

pub returns-else-divisor-ne1-clause-value : goal.returns-else-divisor-ne1-clause-value
returns-else-divisor-ne1-clause-value c =
    let one : pos 1 ≡ gcd c.args.start (gcd_of (drop 1 c.args.numbers.now)) = search rules in
    sym (floor_divided_one c.args.numbers.now) ∙ ap (λ g. floor_divided g c.args.numbers.now) one
