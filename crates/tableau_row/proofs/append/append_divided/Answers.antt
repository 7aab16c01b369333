use Rattle.tableau_row.proofs.Words.{rules, refl, ◌∙◌, ap, sym, subst, length, IsTrue, Row, divided, numbers_of, IsOwnRow, IsShortRow, IsMadeReduced, row_of}
use Rattle.tableau_row.proofs.Lent.{lent, written_last}
use Rattle.tableau_row.proofs.append.append_divided.Goals as goal

pub divide-requires : goal.divide-requires
divide-requires c =
    let r = row_of c.args.row.now in
    let last = lent c.args.numbers.now c.append_row.new.numbers c.split_at_mut-last.result.1.now (length r.coefs) c.len-start.result r c.append_row.ensures refl (search rules) (search rules) in
    let known : IsTrue c.args.row.now.short → IsShortRow r = search rules in
    record { length = last.longer; row = subst IsOwnRow (sym last.row) c.requires.row; short = λ s. subst IsShortRow (sym last.row) (known s) }

pub returns : goal.returns
returns c =
    let r = row_of c.args.row.now in
    let last = lent c.args.numbers.now c.append_row.new.numbers c.split_at_mut-last.result.1.now (length r.coefs) c.len-start.result r c.append_row.ensures refl (search rules) (search rules) in
    record {
      appended =
          written_last c.args.numbers.now c.append_row.new.numbers c.split_at_mut-last.result.0.now c.split_at_mut-last.result.1.now c.divide.new.numbers (length r.coefs) c.len-start.result r (divided r) c.append_row.ensures last
          (search rules) (search rules) (c.divide.ensures.value ∙ ap (λ (x : Row). numbers_of (divided x)) last.row) (search rules);
      made = subst (λ (x : Row). IsMadeReduced x c.divide.result (divided x)) last.row c.divide.ensures.made;
    }
