use Rattle.short_tableau.proofs.Words.{◌≡◌, ◌∙◌, ap, sym, subst, ℕ, Row, TableauRows, with_row, IsShortReduced, row_of}
use Rattle.short_tableau.proofs.Places.{dense_push, pushed_view}
use Rattle.short_tableau.proofs.short_table.ShortTableau.push_copy.Goals as goal

pub invariant_of-self-2 : goal.invariant_of-self-2
invariant_of-self-2 c =
    let s = c.self.inside in
    let n : c.args.t.now.unknowns ≡ c.self.inside.unknowns = c.requires.unknowns ∙ sym (ap (λ (t : TableauRows). t.unknowns) c.self.view_is) in
    let row = subst (λ (k : ℕ). IsShortReduced k 0 (row_of c.row.result)) n c.row.ensures.row in
    dense_push s.unknowns s.count s.numbers.items c.push_row.new.numbers.items (row_of c.row.result) c.in_ok-push_row.ensures.ok c.self.invariant row

pub returns-clause-ok : goal.returns-clause-ok
returns-clause-ok c =
    let s = c.self.inside in
    let n : c.args.t.now.unknowns ≡ c.self.inside.unknowns = c.requires.unknowns ∙ sym (ap (λ (t : TableauRows). t.unknowns) c.self.view_is) in
    let row = subst (λ (k : ℕ). IsShortReduced k 0 (row_of c.row.result)) n c.row.ensures.row in
    pushed_view s.unknowns s.count s.numbers.items c.push_row.new.numbers.items (row_of c.row.result) c.args.self.now c.self.view_is c.self.invariant row c.in_ok-push_row.ensures.ok
    ∙ ap (λ (r : Row). with_row c.args.self.now r) c.row.ensures.value
