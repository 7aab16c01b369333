use Rattle.short_tableau.proofs.Words.{◌≡◌, ◌∙◌, ap, ℕ, divided, row_of_numbers, TableauRows, with_row}
use Rattle.short_tableau.proofs.Places.{dense_push, pushed_view}
use Rattle.short_tableau.proofs.short_table.ShortTableau.push_divided.Goals as goal

pub invariant_of-self-2 : goal.invariant_of-self-2
invariant_of-self-2 c =
    let s = c.self.inside in
    let r = divided (row_of_numbers s.unknowns c.args.row.now) in
    dense_push s.unknowns s.count s.numbers.items c.push_divided_row.new.numbers.items r c.in_ok-push_divided_row.ensures.ok c.self.invariant c.in_ok-push_divided_row.ensures.row

pub returns-clause-ok : goal.returns-clause-ok
returns-clause-ok c =
    let s = c.self.inside in
    let n : c.self.inside.unknowns ≡ c.args.self.now.unknowns = ap (λ (t : TableauRows). t.unknowns) c.self.view_is in
    let r = divided (row_of_numbers s.unknowns c.args.row.now) in
    pushed_view s.unknowns s.count s.numbers.items c.push_divided_row.new.numbers.items r c.args.self.now c.self.view_is c.self.invariant c.in_ok-push_divided_row.ensures.row c.in_ok-push_divided_row.ensures.ok
    ∙ ap (λ (k : ℕ). with_row c.args.self.now (divided (row_of_numbers k c.args.row.now))) n
