use Rattle.short_tableau.proofs.Words.{◌∙◌, ap, arith, constant_cut, row_at, TableauRows, with_row, rows_in}
use Rattle.short_tableau.proofs.Places.{dense_push, pushed_view, count_is}
use Rattle.short_tableau.proofs.short_table.ShortTableau.push_cut.Goals as goal

pub push_cut_row-requires-clause-row : goal.push_cut_row-requires-clause-row
push_cut_row-requires-clause-row c =
    let k = count_is c.self.inside.unknowns c.self.inside.count c.self.inside.numbers.items c.args.self.now c.self.view_is in
    omega (arith, k, c.requires)

pub invariant_of-self-2 : goal.invariant_of-self-2
invariant_of-self-2 c =
    let s = c.self.inside in
    let r = constant_cut (row_at (rows_in s.unknowns s.count s.numbers.items) c.args.i) in
    dense_push s.unknowns s.count s.numbers.items c.push_cut_row.new.numbers.items r c.in_ok-push_cut_row.ensures.ok c.self.invariant c.in_ok-push_cut_row.ensures.row

pub returns-clause-ok : goal.returns-clause-ok
returns-clause-ok c =
    let s = c.self.inside in
    let r = constant_cut (row_at (rows_in s.unknowns s.count s.numbers.items) c.args.i) in
    pushed_view s.unknowns s.count s.numbers.items c.push_cut_row.new.numbers.items r c.args.self.now c.self.view_is c.self.invariant c.in_ok-push_cut_row.ensures.row c.in_ok-push_cut_row.ensures.ok
    ∙ ap (λ (t : TableauRows). with_row c.args.self.now (constant_cut (row_at t.rows c.args.i))) c.self.view_is
