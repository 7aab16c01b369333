use Rattle.tableau_row.proofs.Words.{rules, ◌∙◌, ap, sym, subst, length, IsTrue, all_fit, Row, eliminated, eliminated_listed, numbers_of, AreShortRows, IsElimination, IsMadeReduced, row_of, AreReduced}
use Rattle.tableau_row.proofs.Lent.{lent, written_last}
use Rattle.tableau_row.proofs.append.append_eliminated.Goals as goal

pub eliminate-requires : goal.eliminate-requires
eliminate-requires c =
    let p = row_of c.args.p.now in
    let r = row_of c.args.row.now in
    let last = lent c.args.numbers.now c.append_run.new.numbers c.split_at_mut-last.result.1.now (length p.coefs) c.len-start.result r c.append_run.ensures c.requires.step.coefs (search rules) (search rules) in
    let known : IsTrue c.both.result → AreShortRows p r = search rules in
    record {
      length = last.longer;
      step = subst (IsElimination p c.args.c) (sym last.row) c.requires.step;
      reduced = subst (AreReduced p) (sym last.row) c.requires.reduced;
      listed = subst (λ (x : Row). IsTrue (all_fit (eliminated_listed p c.args.c x))) (sym last.row) c.requires.listed;
      short = λ s. subst (AreShortRows p) (sym last.row) (known s);
    }

pub returns : goal.returns
returns c =
    let p = row_of c.args.p.now in
    let r = row_of c.args.row.now in
    let last = lent c.args.numbers.now c.append_run.new.numbers c.split_at_mut-last.result.1.now (length p.coefs) c.len-start.result r c.append_run.ensures c.requires.step.coefs (search rules) (search rules) in
    record {
      appended =
          written_last c.args.numbers.now c.append_run.new.numbers c.split_at_mut-last.result.0.now c.split_at_mut-last.result.1.now c.eliminate.new.numbers (length p.coefs) c.len-start.result r (eliminated p c.args.c r) c.append_run.ensures last
          (search rules) (search rules) (c.eliminate.ensures.value ∙ ap (λ (x : Row). numbers_of (eliminated p c.args.c x)) last.row) (search rules);
      made = subst (λ (x : Row). IsMadeReduced x c.eliminate.result (eliminated p c.args.c x)) last.row c.eliminate.ensures.made;
    }
