use Rattle.short_tableau.proofs.Words.{sym, IsDense, take_at, ◌≡◌, ◌∙◌, ap, subst, arith, rules, false, List, ℤ, IsTrue, IsFalse, list_all, all_fit, pivot, pivot_listed, TableauRows, rows_in, is_short_row}
use Rattle.short_tableau.proofs.Fitting.{pivot_fits}
use Rattle.short_tableau.proofs.Places.{count_is, length_rows}
use Rattle.short_tableau.proofs.short_table.ShortTableau.pivot.Goals as goal

pub pivot_rows-requires-clause-row : goal.pivot_rows-requires-clause-row
pivot_rows-requires-clause-row c =
    let k = count_is c.self.inside.unknowns c.self.inside.count c.self.inside.numbers.items c.args.self.now c.self.view_is in
    omega (arith, k, c.requires.row)

pub invariant_of-self-else-not-pivot_rows : goal.invariant_of-self-else-not-pivot_rows
invariant_of-self-else-not-pivot_rows c =
    subst (IsDense c.self.inside.unknowns c.self.inside.count) (sym (take_at c.pivot_rows.new.numbers _ c.self.inside.numbers.len (c.pivot_rows.auto.numbers ∙ c.deref_mut.ensures.len))) (c.pivot_rows.ensures.dense c.if-not-pivot_rows.false)

pub returns-then-not-pivot_rows-clause-listed : goal.returns-then-not-pivot_rows-clause-listed
returns-then-not-pivot_rows-clause-listed c =
    let s = c.self.inside in
    let n : c.self.inside.unknowns ≡ c.args.self.now.unknowns = ap (λ (t : TableauRows). t.unknowns) c.self.view_is in
    let k = count_is s.unknowns s.count s.numbers.items c.args.self.now c.self.view_is in
    let l = length_rows s.unknowns s.count s.numbers.items in
    subst (λ (t : TableauRows). IsTrue (all_fit (pivot_listed t.rows c.args.r c.args.c))) c.self.view_is
    (pivot_fits s.unknowns c.args.r c.args.c (rows_in s.unknowns s.count s.numbers.items) c.self.invariant.rows (omega (arith, k, l, c.requires.row)) (omega (arith, n, c.requires.candidate.column)))

pub returns-clause-listed : goal.returns-clause-listed
returns-clause-listed c =
    let s = c.self.inside in
    let n : c.self.inside.unknowns ≡ c.args.self.now.unknowns = ap (λ (t : TableauRows). t.unknowns) c.self.view_is in
    let k = count_is s.unknowns s.count s.numbers.items c.args.self.now c.self.view_is in
    let l = length_rows s.unknowns s.count s.numbers.items in
    subst (λ (t : TableauRows). IsTrue (all_fit (pivot_listed t.rows c.args.r c.args.c))) c.self.view_is
    (pivot_fits s.unknowns c.args.r c.args.c (rows_in s.unknowns s.count s.numbers.items) c.self.invariant.rows (omega (arith, k, l, c.requires.row)) (omega (arith, n, c.requires.candidate.column)))

pub returns-then-not-pivot_rows-clause-long : goal.returns-then-not-pivot_rows-clause-long
returns-then-not-pivot_rows-clause-long c = λ all.
    let s = c.self.inside in
    let items : c.self.inside.numbers.items ≡ c.deref_mut.result.now = search rules in
    let long : IsFalse c.pivot_rows.result = search rules in
    subst (λ (t : TableauRows). list_all is_short_row (pivot t.rows c.args.r c.args.c) ≡ false) c.self.view_is
    (ap (λ (zs : List ℤ). list_all is_short_row (pivot (rows_in s.unknowns s.count zs) c.args.r c.args.c)) items ∙ c.pivot_rows.ensures.long long)
