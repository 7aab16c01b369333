use Rattle.tableau_row.proofs.Words.{rules, ◌≡◌, pos, ℕ, unit_row_is}
use Rattle.tableau_row.proofs.row.unit_column.Goals as goal

pub returns-then-all_zero-clause-value : goal.returns-then-all_zero-clause-value
returns-then-all_zero-clause-value c =
    let one : c.args.row.now.den ≡ pos 1 = search rules in
    let h = c.all_zero.ensures in let k = c.if-all_zero.true in
    search (rules, λ (i : ℕ). unit_row_is c.args.row.now.den c.args.row.now.coefs.now c.args.row.now.constant.now i c.requires one (search rules))
