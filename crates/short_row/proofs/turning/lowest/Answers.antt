use Rattle.short_row.proofs.Words.{rules, ◌≤ℤ◌, quotient_positive, lowest-divided, lowest-alone}
use Rattle.short_row.proofs.turning.lowest.Goals as goal

pub returns-then-divisor-eq1-clause-lowest : goal.returns-then-divisor-eq1-clause-lowest
returns-then-divisor-eq1-clause-lowest c = search (rules, (lowest-alone c.args.a c.args.b (search rules)))

pub short_floor_div-requires-clause-positive : goal.short_floor_div-requires-clause-positive
short_floor_div-requires-clause-positive c = search (rules, c.gcd-divisor.ensures.divisor.positive)

pub short_floor_div-requires-2-clause-positive : goal.short_floor_div-requires-2-clause-positive
short_floor_div-requires-2-clause-positive c = search (rules, c.gcd-divisor.ensures.divisor.positive)

pub returns-clause-lowest : goal.returns-clause-lowest
returns-clause-lowest c =
    search (rules, (lowest-divided c.args.a c.args.b c.gcd-divisor.result (search rules) (c.gcd-divisor.ensures.divisor.positive)))

pub returns-clause-of_row : goal.returns-clause-of_row
returns-clause-of_row c =
    let bound : c.gcd-divisor.result ≤ℤ c.args.a = let b = c.gcd-divisor.ensures.bound in search (rules, b) in
    search (rules, (quotient_positive c.args.a c.gcd-divisor.result (c.gcd-divisor.ensures.divisor.positive) bound))
