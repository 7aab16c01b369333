use Rattle.tableau_row.proofs.Words.{arith, common_steps, rules, refl, ◌∙◌, ap, length-append, sym, subst, length, IsTrue, IsFalse, all_fit, Row, rounded, rounded_listed, numbers_of, IsOwnRow, IsMadeReduced, row_of}
use Rattle.tableau_row.proofs.Lent.{lent, written_last}
use Rattle.tableau_row.proofs.append.append_rounded.Goals as goal

pub round-requires : goal.round-requires
round-requires c =
    let r = row_of c.args.row.now in
    let last = lent c.args.numbers.now c.append_row.new.numbers c.split_at_mut-last.result.1.now (length r.coefs) c.len-start.result r c.append_row.ensures refl (search rules) (search rules) in
    record {
      length = last.longer;
      row = subst IsOwnRow (sym last.row) c.requires.row;
      place = omega (arith, ap length last.numbers, length-append r.coefs r.constant, c.requires.place);
    }

pub returns-in-Ok : goal.returns-in-Ok
returns-in-Ok c =
    let r = row_of c.args.row.now in
    let last = lent c.args.numbers.now c.append_row.new.numbers c.split_at_mut-last.result.1.now (length r.coefs) c.len-start.result r c.append_row.ensures refl (search rules) (search rules) in
    record {
      listed = subst (λ (x : Row). IsTrue (all_fit (rounded_listed x c.args.q))) last.row c.in-Ok.ensures.listed;
      appended =
          written_last c.args.numbers.now c.append_row.new.numbers c.split_at_mut-last.result.0.now c.split_at_mut-last.result.1.now c.round.new.numbers (length r.coefs) c.len-start.result r (rounded r c.args.q) c.append_row.ensures last
          (search rules) (search rules) (c.in-Ok.ensures.ok ∙ ap (λ (x : Row). numbers_of (rounded x c.args.q)) last.row) (search rules);
      made = subst (λ (x : Row). IsMadeReduced x c.in-Ok.short (rounded x c.args.q)) last.row c.in-Ok.ensures.made;
      err = search rules;
    }

pub returns-in-Err : goal.returns-in-Err
returns-in-Err c =
    let r = row_of c.args.row.now in
    let last = lent c.args.numbers.now c.append_row.new.numbers c.split_at_mut-last.result.1.now (length r.coefs) c.len-start.result r c.append_row.ensures refl (search rules) (search rules) in
    record {
      listed = λ over. subst (λ (x : Row). IsFalse (all_fit (rounded_listed x c.args.q))) last.row (c.in-Err.ensures.listed over);
      appended = tt;
      made = tt;
      err = grind (arith, common_steps);
    }
