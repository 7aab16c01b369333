use Rattle.certificate_check.proofs.Words.{◌≡◌, ◌+◌, ℤ, List, length, ap, ◌∙◌, arith, rules, Quotient, lower_bound, length-bounds, if_ok}
use Rattle.certificate_check.proofs.path.lower.Goals as goal

pub returns-clause-value : goal.returns-clause-value
returns-clause-value c = search rules

pub returns-clause-long : goal.returns-clause-long
returns-clause-long c =
    let k : Quotient = record { form = c.args.form.now; den = c.args.d } in
    let long : length (lower_bound (c.args.place + 1) c.args.place k) ≡ c.args.place + 2 = omega (arith, (length-bounds (c.args.place + 1) c.args.place k (omega arith) (omega arith) (omega arith)).0) in
    if_ok (λ (made : List ℤ). made ≡ lower_bound (c.args.place + 1) c.args.place k) (λ (made : List ℤ). length made ≡ c.args.place + 2) c.lower_bound.result (λ made e. ap length e ∙ long) (returns-clause-value c)
