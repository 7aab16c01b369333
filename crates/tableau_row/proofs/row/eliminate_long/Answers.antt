use Rattle.tableau_row.proofs.Words.{rules, arith, w128, entry, ◌∙◌, ap, length, eliminated, row_of_numbers, row_of, made_reduced, reduced_by}
use Rattle.std.proofs.Common.{to_z, of_z}
use Rattle.tableau_row.proofs.Found.{parts_made, row_parts}
use Rattle.tableau_row.proofs.row.eliminate_long.Goals as goal

pub returns : goal.returns
returns c =
    let p = row_of c.args.p.now in
    let r = row_of_numbers (length c.args.p.now.coefs.now) c.args.numbers.now in
    let parts = row_parts (length c.args.p.now.coefs.now) c.args.numbers.now c.split_at_mut-den.result.1.now c.split_at_mut-coefs.result.0.now c.split_at_mut-coefs.result.1.now (to_z w128 (of_z w128 (entry c.split_at_mut-den.result.0.now 0))) (search rules) c.split_at_mut-den.ensures.back c.split_at_mut-coefs.ensures.front c.split_at_mut-coefs.ensures.back in
    record {
      value = parts_made c.args.numbers.now c.split_at_mut-den.result.0.now c.eliminate_parts-made.new.coefs c.eliminate_parts-made.new.constant _ c.eliminate_parts-made.result.0 (eliminated p c.args.c r) (omega (arith, c.requires.length)) c.split_at_mut-den.ensures.front (search rules)
          (c.eliminate_parts-made.ensures.value ∙ ap (eliminated p c.args.c) parts);
      made = made_reduced (eliminated p c.args.c) r _ _ _ c.eliminate_parts-made.ensures parts (reduced_by c.args.c p r c.requires.step);
    }
