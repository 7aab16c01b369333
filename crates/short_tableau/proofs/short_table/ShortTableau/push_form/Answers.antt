use Rattle.short_tableau.proofs.Words.{rules, ◌≡◌, ◌∙◌, ap, arith, ◌++◌, ℕ, widen_to, form_row, numbers_of, TableauRows, with_row, form_kept}
use Rattle.short_tableau.proofs.Places.{dense_push, pushed_view}
use Rattle.short_tableau.proofs.short_table.ShortTableau.push_form.Goals as goal

pub invariant_of-self : goal.invariant_of-self
invariant_of-self c =
    let s = c.self.inside in
    let n : c.self.inside.unknowns ≡ c.args.self.now.unknowns = ap (λ (t : TableauRows). t.unknowns) c.self.view_is in
    let e : c.append_form-pushed.new.numbers.items ≡ c.self.inside.numbers.items ++ numbers_of (form_row c.self.inside.unknowns (widen_to c.self.inside.unknowns c.args.form.now)) = search rules in
    dense_push s.unknowns s.count s.numbers.items c.append_form-pushed.new.numbers.items (form_row s.unknowns (widen_to s.unknowns c.args.form.now)) e c.self.invariant
    (form_kept s.unknowns c.args.form.now c.requires.form.some (omega (arith, n, c.requires.narrow)) (search rules))

pub returns-in-Ok-true-clause-short : goal.returns-in-Ok-true-clause-short
returns-in-Ok-true-clause-short c = λ all.
    let s = c.self.inside in
    let n : c.self.inside.unknowns ≡ c.args.self.now.unknowns = ap (λ (t : TableauRows). t.unknowns) c.self.view_is in
    pushed_view s.unknowns s.count s.numbers.items c.append_form-pushed.new.numbers.items (form_row s.unknowns (widen_to s.unknowns c.args.form.now)) c.args.self.now c.self.view_is c.self.invariant
    (form_kept s.unknowns c.args.form.now c.requires.form.some (omega (arith, n, c.requires.narrow)) (search rules)) (search rules)
    ∙ ap (λ (k : ℕ). with_row c.args.self.now (form_row k (widen_to k c.args.form.now))) n
