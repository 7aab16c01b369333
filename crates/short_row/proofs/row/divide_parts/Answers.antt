use Rattle.short_row.proofs.Words.{rules, refl, ◌≡◌, divided, row_from, row_parts, divided_row, divided_one, divided_whole}
use Rattle.short_row.proofs.row.divide_parts.Goals as goal

pub returns-clause-value : goal.returns-clause-value
returns-clause-value c =
    divided_row c.args.den c.args.coefs.now c.args.constant.now c.gcd_with-divisor.result _ _ _ (search rules) (search rules) (search rules) (search rules)

pub returns-then-divisor-eq1-clause-value : goal.returns-then-divisor-eq1-clause-value
returns-then-divisor-eq1-clause-value c =
    let r = row_from c.args.den c.args.coefs.now c.args.constant.now in
    row_parts (λ x. x ≡ divided r) _ c.args.den _ c.args.coefs.now _ c.args.constant.now (search rules) refl refl (divided_one c.args.den c.args.coefs.now c.args.constant.now (search rules))

pub returns-then-den-eq1-clause-value : goal.returns-then-den-eq1-clause-value
returns-then-den-eq1-clause-value c =
    let r = row_from c.args.den c.args.coefs.now c.args.constant.now in
    row_parts (λ x. x ≡ divided r) _ c.args.den _ c.args.coefs.now _ c.args.constant.now (search rules) refl refl (divided_whole c.args.den c.args.coefs.now c.args.constant.now (search rules))
