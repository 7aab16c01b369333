use Rattle.short_tableau.proofs.Words.{rules, ◌≡◌, ◌∙◌, ap, sym, subst, to_z, of_z, w64, constant_cut, row_of_numbers, IsShortRow, row_from, row_join}
use Rattle.short_tableau.proofs.Cutting.{cut_row, row_parts}
use Rattle.short_tableau.proofs.cuts.make_cut.Goals as goal

pub returns : goal.returns
returns c =
    let n = c.args.unknowns in
    let front = c.split_at_mut-den.result.0.now in
    let same : to_z w64 (of_z w64 c.cut_parts.result) ≡ c.cut_parts.result = search rules in
    let join = row_join n front c.cut_parts.new.coefs c.cut_parts.new.constant (to_z w64 (of_z w64 c.cut_parts.result)) (search rules) (search rules)
    ∙ ap (λ z. row_from z c.cut_parts.new.coefs c.cut_parts.new.constant) same in
    let made = join ∙ c.cut_parts.ensures.value ∙ ap constant_cut (row_parts n c.args.row.now c.split_at_mut-den.result.1.now _ _ _ (search rules) c.split_at_mut-den.ensures.back c.split_at_mut-coefs.ensures.front c.split_at_mut-coefs.ensures.back) in
    record { value = made; row = cut_row n (row_of_numbers n c.args.row.now) _ c.requires.row made (subst IsShortRow (sym join) c.cut_parts.ensures.short) }
