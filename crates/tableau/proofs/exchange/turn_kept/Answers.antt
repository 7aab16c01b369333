use Rattle.tableau.proofs.Words.{rules, refl, ◌≡◌, ◌∙◌, ◌+◌, pos, ap, sym, subst, IsTrue, entry, Row, unit_row, row_of_numbers, IsShortRow, IsSteady, kept_short, lent_row, with_more, row_of, Kept}
use Rattle.tableau.proofs.Parted.{solvable_over}
use Rattle.tableau.proofs.Turning.{plain_entry, short_steady, unit_steady}
use Rattle.tableau.proofs.exchange.turn_kept.Goals as goal

pub push_solved-requires-clause-p : goal.push_solved-requires-clause-p
push_solved-requires-clause-p c = solvable_over c.args.next.now c.args.pivot.now.lent (row_of c.args.pivot.now.p) c.args.pivot.now.c c.requires.over c.args.pivot.now.solvable

pub returns-then-k-pivot : goal.returns-then-k-pivot
returns-then-k-pivot c =
    let v = c.args.pivot.now in
    let l = v.lent in
    let p = row_of v.p in
    let t = c.args.next.now in
    let k = c.in-Unit.k in
    let steady = subst (λ (x : Kept). IsSteady p v.c (lent_row l x)) (sym c.in-Unit.is)
    (unit_steady l.unknowns l.width k v.c p (search rules) v.solvable.column (λ e. c.if-k-pivot.true (sym e)) v.solvable.row v.solvable.positive) in
    let same : unit_row t.unknowns t.width k ≡ unit_row l.unknowns l.width k = rw (c.requires.over.unknowns, c.requires.over.width) refl in
    record {
      listed = steady.listed;
      ok = c.push_unit.ensures ∙ ap (with_more t) (same ∙ ap (lent_row l) (sym c.in-Unit.is) ∙ steady.stays);
      err = search rules;
    }

pub returns-then-numbers-pivot-eq0 : goal.returns-then-numbers-pivot-eq0
returns-then-numbers-pivot-eq0 c =
    let v = c.args.pivot.now in
    let l = v.lent in
    let p = row_of v.p in
    let r = lent_row l c.args.one in
    let zs = c.numbers_at-numbers.result.now in
    let is : r ≡ row_of_numbers l.unknowns zs = ap (lent_row l) c.in-At.is ∙ ap (row_of_numbers l.unknowns) (sym c.numbers_at-numbers.ensures.value) in
    let read : entry zs (1 + v.c) ≡ pos 0 = search rules in
    let none : entry r.coefs v.c ≡ pos 0 = ap (λ (x : Row). entry x.coefs v.c) is ∙ plain_entry l.unknowns v.c zs v.solvable.column ∙ read in
    let p_short : IsShortRow p = search rules in
    let r_short : IsShortRow r = c.requires.one.short (subst (λ (x : Kept). IsTrue (kept_short x)) (sym c.in-At.is) c.if-at.true) in
    let steady = short_steady l.unknowns l.width v.c p r v.solvable.row c.requires.one.row v.solvable.column v.solvable.positive none c.requires.one.reduced p_short r_short in
    record {
      listed = steady.listed;
      ok = c.push_plain.ensures ∙ ap (with_more c.args.next.now) (ap (λ i. row_of_numbers i zs) c.requires.over.unknowns ∙ sym is ∙ steady.stays);
      err = search rules;
    }
