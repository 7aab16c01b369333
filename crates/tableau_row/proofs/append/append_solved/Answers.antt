use Rattle.tableau_row.proofs.Words.{rules, arith, sym, subst, refl, Row, numbers_of, Appends, IsMadeReduced, row_of, drop_two, solved, eliminated_unit, solved_row, solved_reduced, solved_short, solved_listed, solved_numbers}
use Rattle.std.specs.Prelude.{true}
use Rattle.tableau_row.proofs.Lent.{appends}
use Rattle.tableau_row.proofs.append.append_solved.Goals as goal

pub returns : goal.returns
returns c =
    let p = row_of c.args.p.now in
    let k = c.args.c in
    let same = eliminated_unit _ _ k p refl c.requires.p.row.constant c.requires.p.column c.requires.reduced in
    record {
      listed = solved_listed _ _ k p c.requires.short refl c.requires.p.column;
      appended =
          subst (λ (r : Row). Appends c.args.numbers.now c.append_negated-3.new.numbers (numbers_of r)) (sym same)
          (appends c.args.numbers.now c.append_negated-3.new.numbers (numbers_of (solved p k))
          (solved_numbers c.args.numbers.now.items c.append_one.new.numbers.items c.append_negated.new.numbers.items c.append_one-2.new.numbers.items c.append_negated-2.new.numbers.items
          c.append_negated-3.new.numbers.items p k c.requires.p.column (search rules) (search rules) (search rules) (search (rules, drop_two)) (search rules))
          (search rules));
      made = subst (IsMadeReduced p true) (sym same) (record {
        row = λ n w given. solved_row n w k p (omega (arith, given.coefs, c.requires.p.column)) given c.requires.short c.requires.p.positive;
        reduced = solved_reduced k p c.requires.p.column c.requires.reduced;
        short = λ _. solved_short k p c.requires.p.column c.requires.short;
      });
    }
