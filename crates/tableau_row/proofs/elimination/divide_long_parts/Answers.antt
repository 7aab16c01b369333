use Rattle.tableau_row.proofs.Words.{rules, refl, ◌≡◌, divided, row_from, divided_row, divided_one, row_parts}
use Rattle.tableau_row.proofs.elimination.divide_long_parts.Goals as goal

pub returns : goal.returns
returns c = record {
  value = divided_row c.args.den c.args.coefs.now c.args.constant.now c.gcd_with-divisor.result _ _ _ (search rules) (search rules) (search rules) (search rules);
  row = search rules;
  short = search rules;
}

pub returns-then-divisor-eq1 : goal.returns-then-divisor-eq1
returns-then-divisor-eq1 c =
    let r = row_from c.args.den c.args.coefs.now c.args.constant.now in
    record {
      value = row_parts (λ x. x ≡ divided r) _ c.args.den _ c.args.coefs.now _ c.args.constant.now (search rules) refl refl (divided_one c.args.den c.args.coefs.now c.args.constant.now (search rules));
      row = search rules;
      short = search rules;
    }
