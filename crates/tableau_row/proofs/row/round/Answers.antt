use Rattle.tableau_row.proofs.Words.{rules, refl, ◌≡◌, add, negate, width, rounded, rounding, residue_of, row_of_numbers, row_from, content-divided, row_over}
use Rattle.tableau_row.proofs.row.round.Goals as goal

pub returns-in_err-made-clause-listed : goal.returns-in_err-made-clause-listed
returns-in_err-made-clause-listed c =
    let refused = c.in_err-made.ensures.listed refl in
    search (rules, refused)

pub returns-clause-made : goal.returns-clause-made
returns-clause-made c =
    let r = row_of_numbers c.args.unknowns c.args.numbers.now in
    let same : row_from c.in_ok-made.made c.round_parts.new.coefs c.round_parts.new.constant ≡ rounded r c.args.q = search rules in
    record {
      row = λ n w given.
          row_over n w r _ (rounded r c.args.q) c.split_at_mut-coefs.result.0.now c.split_at_mut-coefs.result.1.now (search rules) (search rules) same (search rules) given;
      reduced = content-divided (row_from r.den r.coefs (add r.constant (negate (rounding (width r.constant) c.args.q (residue_of r))))) c.requires.row.positive;
      short = search rules;
    }
