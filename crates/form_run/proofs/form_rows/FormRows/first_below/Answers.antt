use Rattle.form_run.proofs.Words.{rules, arith, ◌≡◌, ◌∙◌, ◌+◌, ap, sym, ℕ, map, length, Some, None, TableauRows, negative-front, negative_from, read}
use Rattle.form_run.proofs.Below.{behind_all}
use Rattle.form_run.proofs.HeldRows.{reads, all_long}
use Rattle.form_run.proofs.form_rows.FormRows.first_below.Goals as goal

pub returns-in-Some-clause-value : goal.returns-in-Some-clause-value
returns-in-Some-clause-value c =
    let s = c.self.inside in
    let first : negative_from 0 c.self.inside.places.rows ≡ Some c.in-Some.r = search rules in
    sym (negative-front s.places.rows (map (read s.places s.basis) s.forms.lists) 0 c.in-Some.r first) ∙ ap (λ (t : TableauRows). negative_from 0 t.rows) c.self.view_is

pub returns-in-Some-clause-bound : goal.returns-in-Some-clause-bound
returns-in-Some-clause-bound c =
    let s = c.self.inside in
    omega (arith, c.in-Some.ensures.bound, all_long s.places s.basis s.forms.lists, ap (λ (t : TableauRows). length t.rows) c.self.view_is)

pub form_below-requires : goal.form_below-requires
form_below-requires c = let s = c.self.inside in record { measured = c.self.invariant.0.basis; size = c.self.invariant.0.size; read = reads s.places s.basis s.forms s.columns s.norm c.self.invariant.0; above = c.self.invariant.1 }

pub returns-in-Some-form_below-clause-value : goal.returns-in-Some-form_below-clause-value
returns-in-Some-form_below-clause-value c =
    let s = c.self.inside in
    let i = c.in-Some-form_below.i in
    let none : negative_from 0 c.self.inside.places.rows ≡ None = search rules in
    ap (λ (k : ℕ). Some (k + i)) c.rows.ensures
    ∙ behind_all s.places.rows (map (read s.places s.basis) s.forms.lists) (Some i) none c.in-Some-form_below.ensures.value
    ∙ ap (λ (t : TableauRows). negative_from 0 t.rows) c.self.view_is

pub returns-in-None-clause-value : goal.returns-in-None-clause-value
returns-in-None-clause-value c =
    let s = c.self.inside in
    let none : negative_from 0 c.self.inside.places.rows ≡ None = search rules in
    behind_all s.places.rows (map (read s.places s.basis) s.forms.lists) None none c.in-None.ensures.value
    ∙ ap (λ (t : TableauRows). negative_from 0 t.rows) c.self.view_is
