use Rattle.tableau_row.proofs.Words.{rules, arith, w128, entry, ◌∙◌, ap, divided, row_of_numbers, content-divided, made_reduced}
use Rattle.std.proofs.Common.{to_z, of_z}
use Rattle.tableau_row.proofs.Found.{parts_made, row_parts}
use Rattle.tableau_row.proofs.row.divide.Goals as goal

pub returns : goal.returns
returns c =
    let r = row_of_numbers c.args.unknowns c.args.numbers.now in
    let parts = row_parts c.args.unknowns c.args.numbers.now c.split_at_mut-den.result.1.now c.split_at_mut-coefs.result.0.now c.split_at_mut-coefs.result.1.now (to_z w128 (of_z w128 (entry c.split_at_mut-den.result.0.now 0))) (search rules) c.split_at_mut-den.ensures.back c.split_at_mut-coefs.ensures.front c.split_at_mut-coefs.ensures.back in
    record {
      value = parts_made c.args.numbers.now c.split_at_mut-den.result.0.now c.divide_parts-made.new.coefs c.divide_parts-made.new.constant _ c.divide_parts-made.result.0 (divided r) (omega (arith, c.requires.length)) c.split_at_mut-den.ensures.front (search rules)
          (c.divide_parts-made.ensures.value ∙ ap divided parts);
      made = made_reduced divided r _ _ _ c.divide_parts-made.ensures parts (content-divided r c.requires.row.positive);
    }
