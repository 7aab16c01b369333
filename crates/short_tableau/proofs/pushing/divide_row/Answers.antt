use Rattle.short_tableau.proofs.Words.{rules, ◌≡◌, ◌∙◌, ap, sym, subst, to_z, of_z, w64, Row, divided, IsShortRow, row_from, row_join}
use Rattle.short_tableau.proofs.Cutting.{divided_row, row_parts}
use Rattle.short_tableau.proofs.pushing.divide_row.Goals as goal

pub returns : goal.returns
returns c =
    let n = c.args.unknowns in
    let front = c.split_at_mut-den.result.0.now in
    let same : to_z w64 (of_z w64 c.divide_parts.result) ≡ c.divide_parts.result = search rules in
    let join = row_join n front c.divide_parts.new.coefs c.divide_parts.new.constant (to_z w64 (of_z w64 c.divide_parts.result)) (search rules) (search rules)
    ∙ ap (λ z. row_from z c.divide_parts.new.coefs c.divide_parts.new.constant) same in
    let made = join ∙ c.divide_parts.ensures.value ∙ ap divided (row_parts n c.args.row.now c.split_at_mut-den.result.1.now _ _ _ (search rules) c.split_at_mut-den.ensures.back c.split_at_mut-coefs.ensures.front c.split_at_mut-coefs.ensures.back) in
    record { value = made; row = divided_row n c.args.row.now _ c.requires.size c.requires.positive made (subst IsShortRow (sym join) c.divide_parts.ensures.short) }
