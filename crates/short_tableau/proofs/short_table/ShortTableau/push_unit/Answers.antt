use Rattle.short_tableau.proofs.Words.{◌≡◌, ◌∙◌, ap, arith, ℕ, unit_row, TableauRows, with_row, unit_reduced}
use Rattle.short_tableau.proofs.Places.{dense_push, pushed_view}
use Rattle.short_tableau.proofs.short_table.ShortTableau.push_unit.Goals as goal

pub invariant_of-self-2 : goal.invariant_of-self-2
invariant_of-self-2 c =
    let s = c.self.inside in
    let n : c.self.inside.unknowns ≡ c.args.self.now.unknowns = ap (λ (t : TableauRows). t.unknowns) c.self.view_is in
    dense_push s.unknowns s.count s.numbers.items c.push_unit_row.new.numbers.items (unit_row s.unknowns 0 c.args.c) c.in_ok-push_unit_row.ensures.ok c.self.invariant (unit_reduced s.unknowns 0 c.args.c (omega (arith, n, c.requires)))

pub returns-clause-ok : goal.returns-clause-ok
returns-clause-ok c =
    let s = c.self.inside in
    let n : c.self.inside.unknowns ≡ c.args.self.now.unknowns = ap (λ (t : TableauRows). t.unknowns) c.self.view_is in
    pushed_view s.unknowns s.count s.numbers.items c.push_unit_row.new.numbers.items (unit_row s.unknowns 0 c.args.c) c.args.self.now c.self.view_is c.self.invariant (unit_reduced s.unknowns 0 c.args.c (omega (arith, n, c.requires))) c.in_ok-push_unit_row.ensures.ok
    ∙ ap (λ (k : ℕ). with_row c.args.self.now (unit_row k 0 c.args.c)) n
