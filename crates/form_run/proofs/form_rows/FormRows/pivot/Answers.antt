use Rattle.form_run.proofs.Words.{rules, arith, ◌≡◌, ◌∙◌, ap, sym, subst, ◌<◌, pos, ◌≤ℤ◌, length, map, IsTrue, entry, all_fit, Row, row_at, eliminated, pivot, pivot_listed, TableauRows, IsMeasured, all_rows}
use Rattle.form_run.proofs.Below.{none_above}
use Rattle.form_run.proofs.HeldRows.{all_listed, all_pivot}
use Rattle.form_run.proofs.form_rows.FormRows.pivot.Goals as goal

pub returns-then-turn-clause-listed : goal.returns-then-turn-clause-listed
returns-then-turn-clause-listed c =
    let s = c.self.inside in
    subst (λ (t : TableauRows). IsTrue (all_fit (pivot_listed t.rows c.args.r c.args.c))) c.self.view_is
    (all_listed s.places s.basis s.forms s.columns s.norm c.self.invariant.0 c.args.r c.args.c
    (omega (arith, c.requires.row, ap (λ (t : TableauRows). length t.rows) c.self.view_is)) (omega (arith, c.requires.candidate.column, ap (λ (t : TableauRows). t.unknowns) c.self.view_is)))

pub returns-clause-listed : goal.returns-clause-listed
returns-clause-listed c =
    let s = c.self.inside in
    subst (λ (t : TableauRows). IsTrue (all_fit (pivot_listed t.rows c.args.r c.args.c))) c.self.view_is
    (all_listed s.places s.basis s.forms s.columns s.norm c.self.invariant.0 c.args.r c.args.c
    (omega (arith, c.requires.row, ap (λ (t : TableauRows). length t.rows) c.self.view_is)) (omega (arith, c.requires.candidate.column, ap (λ (t : TableauRows). t.unknowns) c.self.view_is)))

pub returns-then-turn-clause-short : goal.returns-then-turn-clause-short
returns-then-turn-clause-short c = λ _.
    let s = c.self.inside in
    let all = all_rows s.places s.basis s.forms.lists in
    let a = c.turn.new.basis in
    let lt : c.args.r < length (all_rows c.self.inside.places c.self.inside.basis c.self.inside.forms.lists).rows = omega (arith, c.requires.row, ap (λ (t : TableauRows). length t.rows) c.self.view_is) in
    let inside : c.args.c < c.self.inside.places.unknowns = omega (arith, c.requires.candidate.column, ap (λ (t : TableauRows). t.unknowns) c.self.view_is) in
    let above : pos 1 ≤ℤ entry (row_at (all_rows c.self.inside.places c.self.inside.basis c.self.inside.forms.lists).rows c.args.r).coefs c.args.c
    = subst (λ (t : TableauRows). pos 1 ≤ℤ entry (row_at t.rows c.args.r).coefs c.args.c) (sym c.self.view_is) c.requires.candidate.positive in
    let same : row_at c.args.row.now.rows 0 ≡ row_at (all_rows c.self.inside.places c.self.inside.basis c.self.inside.forms.lists).rows c.args.r
    = ap (λ (t : TableauRows). row_at t.rows 0) c.requires.read ∙ ap (λ (t : TableauRows). row_at t.rows c.args.r) (sym c.self.view_is) in
    let turned : c.turn.new.places ≡ record c.self.inside.places { rows = map (eliminated (row_at c.args.row.now.rows 0) c.args.c) c.self.inside.places.rows } = search rules in
    let measured : IsMeasured c.turn.new.places c.turn.new.basis = search rules in
    let e : c.turn.new.places ≡ record c.self.inside.places { rows = map (eliminated (row_at (all_rows c.self.inside.places c.self.inside.basis c.self.inside.forms.lists).rows c.args.r) c.args.c) c.self.inside.places.rows }
    = turned ∙ ap (λ (p : Row). record c.self.inside.places { rows = map (eliminated p c.args.c) c.self.inside.places.rows }) same in
    ap (λ (t : TableauRows). all_rows t a s.forms.lists) e
    ∙ all_pivot s.places s.basis s.forms s.columns s.norm c.self.invariant.0 c.args.r c.args.c a lt inside above (subst (λ (t : TableauRows). IsMeasured t c.turn.new.basis) e measured)
    ∙ ap (λ (t : TableauRows). record t { rows = pivot t.rows c.args.r c.args.c }) c.self.view_is

pub invariant_of-self-2 : goal.invariant_of-self-2
invariant_of-self-2 c = (c.clear.ensures 0 (omega arith), none_above c.clear.new.places c.clear.new.basis c.clear.new.forms.lists)
