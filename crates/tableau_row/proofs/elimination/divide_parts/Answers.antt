use Rattle.tableau_row.proofs.Words.{rules, refl, ◌≡◌, divided, row_from, divided_whole, row_parts}
use Rattle.tableau_row.proofs.elimination.divide_parts.Goals as goal

pub returns-then-den-eq1 : goal.returns-then-den-eq1
returns-then-den-eq1 c =
    let r = row_from c.args.den c.args.coefs.now c.args.constant.now in
    record {
      value = row_parts (λ x. x ≡ divided r) _ c.args.den _ c.args.coefs.now _ c.args.constant.now (search rules) refl refl (divided_whole c.args.den c.args.coefs.now c.args.constant.now (search rules));
      row = search rules;
      short = search rules;
    }
