use Rattle.tableau.proofs.Words.{rules, ap, ◌≡◌, ◌∙◌, pos, subst, entry, Row, lent_row, with_more, row_of, eliminated_none}
use Rattle.tableau.proofs.Parted.{solvable_over}
use Rattle.tableau.proofs.exchange.turn_row.Goals as goal

pub returns-then-row-pivot-eq0-clause-ok : goal.returns-then-row-pivot-eq0-clause-ok
returns-then-row-pivot-eq0-clause-ok c =
    let v = c.args.pivot.now in
    let l = v.lent in
    let r = lent_row l c.args.one in
    let none = subst (λ (x : Row). entry x.coefs v.c ≡ pos 0) c.row-row.ensures (search rules) in
    let stays = eliminated_none l.unknowns l.width (row_of v.p) v.c r v.solvable.row c.requires.one.row v.solvable.positive none c.requires.one.reduced in
    c.copy_kept.ensures ∙ ap (with_more c.args.next.now) stays

pub push_eliminated-requires-clause-p : goal.push_eliminated-requires-clause-p
push_eliminated-requires-clause-p c = solvable_over c.args.next.now c.args.pivot.now.lent (row_of c.args.pivot.now.p) c.args.pivot.now.c c.requires.over c.args.pivot.now.solvable
