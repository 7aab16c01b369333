use Rattle.node_rows.proofs.Words.{rules, ◌≡◌, ◌∙◌, ap, ℤ, gcd, gcd_of, floor_divided}
use Rattle.node_rows.proofs.reading.divided.Goals as goal

pub returns : goal.returns
returns c =
    let made : c.from_entries.result ≡ floor_divided c.divisor-divisor.result c.args.constant.items = search rules in
    let by : c.divisor-divisor.result ≡ gcd c.args.den (gcd (gcd_of c.args.coefs.now) (gcd_of c.args.constant.items)) = search rules in
    made ∙ ap (λ (g : ℤ). floor_divided g c.args.constant.items) by
