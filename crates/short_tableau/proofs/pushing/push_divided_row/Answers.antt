use Rattle.short_tableau.proofs.Words.{rules, arith, drop, length, ◌≡◌, ◌∙◌, ap, sym, subst, ◌++◌, List, ℤ, Row, divided, numbers_of, row_of_numbers, numbers_again, IsShortReduced, drop_at}
use Rattle.short_tableau.proofs.Cutting.{written_back}
use Rattle.short_tableau.proofs.pushing.push_divided_row.Goals as goal

pub returns : goal.returns
returns c =
    let n = c.args.unknowns in
    let row = c.divide_row.new.row in
    let copy : c.split_at_mut-made.result.1.now ≡ c.args.row.now = c.split_at_mut-made.ensures.back ∙ ap (drop c.len-before.result) (c.deref_mut.ensures.value ∙ c.in_ok-extend_from_slice.ensures.items) ∙ drop_at c.args.numbers.now.items c.args.row.now c.len-before.result (search rules) in
    let made : row_of_numbers c.args.unknowns c.divide_row.new.row ≡ divided (row_of_numbers c.args.unknowns c.args.row.now) = c.divide_row.ensures.value ∙ ap (λ (zs : List ℤ). divided (row_of_numbers c.args.unknowns zs)) copy in
    record {
      ok = written_back c.args.numbers.now.items c.args.row.now c.extend_from_slice.new.self.items c.deref_mut.result.now c.split_at_mut-made.result.0.now c.split_at_mut-made.result.1.now row _ c.len-before.result c.extend_from_slice.new.self.len
          c.in_ok-extend_from_slice.ensures.items c.deref_mut.ensures.value c.deref_mut.ensures.len (search rules) c.split_at_mut-made.ensures.value c.split_at_mut-made.ensures.front c.divide_row.auto.row
          ∙ ap (λ (zs : List ℤ). c.args.numbers.now.items ++ zs) (sym (numbers_again n row (omega (arith, c.divide_row.auto.row, ap length copy, c.requires.size))) ∙ ap numbers_of made);
      row = subst (IsShortReduced c.args.unknowns 0) made c.divide_row.ensures.row;
      err = _;
    }
