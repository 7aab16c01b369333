use Rattle.short_tableau.proofs.Words.{IsDense, take_at, All, ◌≡◌, ◌∙◌, ap, sym, subst, arith, rules, ℕ, ℤ, false, List, map, IsTrue, flat_map, list_all, IsCandidate, all_fit, Row, row_at, eliminated, eliminated_listed, TableauRows, rows_in, row_size, row_of_numbers, length, IsPivot, IsShortReduced, is_short_row}
use Rattle.short_tableau.proofs.Fitting.{flat_fit}
use Rattle.short_tableau.proofs.OneRow.{stays_alone}
use Rattle.short_tableau.proofs.Places.{turned_view}
use Rattle.short_tableau.proofs.short_table.ShortTableau.eliminate.Goals as goal

pub invariant_of-pivot-clause-size : goal.invariant_of-pivot-clause-size
invariant_of-pivot-clause-size c =
    let n : c.args.t.now.unknowns ≡ c.self.inside.unknowns = c.requires.unknowns ∙ sym (ap (λ (t : TableauRows). t.unknowns) c.self.view_is) in
    subst (λ (k : ℕ). length c.row_numbers-row.result.now ≡ row_size k) n c.row_numbers-row.ensures.length

pub invariant_of-pivot-clause-solvable : goal.invariant_of-pivot-clause-solvable
invariant_of-pivot-clause-solvable c =
    let n : c.args.t.now.unknowns ≡ c.self.inside.unknowns = c.requires.unknowns ∙ sym (ap (λ (t : TableauRows). t.unknowns) c.self.view_is) in
    subst (λ (k : ℕ). IsPivot k 0 (row_of_numbers k c.row_numbers-row.result.now) c.args.c) n (record {
      row = c.row_numbers-row.ensures.row;
      candidate =
          subst (λ (k : ℕ). IsCandidate k (row_of_numbers c.args.t.now.unknowns c.row_numbers-row.result.now) c.args.c) (sym c.requires.unknowns)
          (subst (λ (r : Row). IsCandidate c.args.self.now.unknowns r c.args.c) (sym c.row_numbers-row.ensures.value) c.requires.candidate);
    })

pub returns-then-not-turn_rows-clause-listed : goal.returns-then-not-turn_rows-clause-listed
returns-then-not-turn_rows-clause-listed c =
    let s = c.self.inside in
    let n : c.args.t.now.unknowns ≡ c.self.inside.unknowns = c.requires.unknowns ∙ sym (ap (λ (t : TableauRows). t.unknowns) c.self.view_is) in
    let row = subst (IsShortReduced s.unknowns 0) c.row_numbers-row.ensures.value (subst (λ (k : ℕ). IsShortReduced k 0 (row_of_numbers c.args.t.now.unknowns c.row_numbers-row.result.now)) n c.row_numbers-row.ensures.row) in
    subst (λ (t : TableauRows). IsTrue (all_fit (flat_map (eliminated_listed (row_at c.args.t.now.rows c.args.i) c.args.c) t.rows))) c.self.view_is
    (flat_fit s.unknowns (row_at c.args.t.now.rows c.args.i) c.args.c (rows_in s.unknowns s.count s.numbers.items) row (omega (arith, n, c.requires.unknowns, c.requires.candidate.column)) c.self.invariant.rows)

pub returns-clause-listed : goal.returns-clause-listed
returns-clause-listed c =
    let s = c.self.inside in
    let n : c.args.t.now.unknowns ≡ c.self.inside.unknowns = c.requires.unknowns ∙ sym (ap (λ (t : TableauRows). t.unknowns) c.self.view_is) in
    let row = subst (IsShortReduced s.unknowns 0) c.row_numbers-row.ensures.value (subst (λ (k : ℕ). IsShortReduced k 0 (row_of_numbers c.args.t.now.unknowns c.row_numbers-row.result.now)) n c.row_numbers-row.ensures.row) in
    subst (λ (t : TableauRows). IsTrue (all_fit (flat_map (eliminated_listed (row_at c.args.t.now.rows c.args.i) c.args.c) t.rows))) c.self.view_is
    (flat_fit s.unknowns (row_at c.args.t.now.rows c.args.i) c.args.c (rows_in s.unknowns s.count s.numbers.items) row (omega (arith, n, c.requires.unknowns, c.requires.candidate.column)) c.self.invariant.rows)

pub invariant_of-self-else-not-turn_rows : goal.invariant_of-self-else-not-turn_rows
invariant_of-self-else-not-turn_rows c =
    subst (IsDense c.self.inside.unknowns c.self.inside.count) (sym (take_at c.turn_rows.new.numbers _ c.self.inside.numbers.len (c.turn_rows.auto.numbers ∙ c.deref_mut.ensures.len))) (c.turn_rows.ensures.dense c.if-not-turn_rows.false)

pub returns-clause-short : goal.returns-clause-short
returns-clause-short c = λ all.
    let s = c.self.inside in
    let n : c.args.t.now.unknowns ≡ c.self.inside.unknowns = c.requires.unknowns ∙ sym (ap (λ (t : TableauRows). t.unknowns) c.self.view_is) in
    turned_view s.unknowns s.count s.numbers.items _ (map (eliminated (row_at c.args.t.now.rows c.args.i) c.args.c)) c.args.self.now c.self.view_is
    (ap (rows_in c.self.inside.unknowns c.self.inside.count) (take_at c.turn_rows.new.numbers _ c.self.inside.numbers.len (c.turn_rows.auto.numbers ∙ c.deref_mut.ensures.len))
    ∙ c.turn_rows.ensures.rows c.if-not-turn_rows.false
    ∙ ap (λ (zs : List ℤ). map (eliminated (row_of_numbers c.self.inside.unknowns c.row_numbers-row.result.now) c.args.c) (rows_in c.self.inside.unknowns c.self.inside.count zs)) c.deref_mut.ensures.value
    ∙ ap (λ (r : Row). map (eliminated r c.args.c) (rows_in c.self.inside.unknowns c.self.inside.count c.self.inside.numbers.items)) (sym (ap (λ (k : ℕ). row_of_numbers k c.row_numbers-row.result.now) n) ∙ c.row_numbers-row.ensures.value))

pub returns-then-coef-eq0-clause-listed : goal.returns-then-coef-eq0-clause-listed
returns-then-coef-eq0-clause-listed c =
    let s = c.self.inside in
    let n : c.args.t.now.unknowns ≡ c.self.inside.unknowns = c.requires.unknowns ∙ sym (ap (λ (t : TableauRows). t.unknowns) c.self.view_is) in
    let row = subst (IsShortReduced s.unknowns 0) c.row_numbers-row.ensures.value (subst (λ (k : ℕ). IsShortReduced k 0 (row_of_numbers c.args.t.now.unknowns c.row_numbers-row.result.now)) n c.row_numbers-row.ensures.row) in
    subst (λ (t : TableauRows). IsTrue (all_fit (flat_map (eliminated_listed (row_at c.args.t.now.rows c.args.i) c.args.c) t.rows))) c.self.view_is
    (flat_fit s.unknowns (row_at c.args.t.now.rows c.args.i) c.args.c (rows_in s.unknowns s.count s.numbers.items) row (omega (arith, n, c.requires.unknowns, c.requires.candidate.column)) c.self.invariant.rows)

pub returns-then-coef-eq0-clause-short : goal.returns-then-coef-eq0-clause-short
returns-then-coef-eq0-clause-short c = λ all.
    let s = c.self.inside in
    let n : c.args.t.now.unknowns ≡ c.self.inside.unknowns = c.requires.unknowns ∙ sym (ap (λ (t : TableauRows). t.unknowns) c.self.view_is) in
    let row = subst (IsShortReduced s.unknowns 0) c.row_numbers-row.ensures.value (subst (λ (k : ℕ). IsShortReduced k 0 (row_of_numbers c.args.t.now.unknowns c.row_numbers-row.result.now)) n c.row_numbers-row.ensures.row) in
    let rows : All (IsShortReduced c.self.inside.unknowns 0) c.args.self.now.rows = subst (λ (t : TableauRows). All (IsShortReduced c.self.inside.unknowns 0) t.rows) c.self.view_is c.self.invariant.rows in
    let at : IsCandidate c.self.inside.unknowns (row_at c.args.t.now.rows c.args.i) c.args.c = subst (λ (k : ℕ). IsCandidate k (row_at c.args.t.now.rows c.args.i) c.args.c) (sym c.requires.unknowns ∙ n) c.requires.candidate in
    ap (λ (rs : List Row). record c.args.self.now { rows = rs }) (stays_alone s.unknowns 0 (row_at c.args.t.now.rows c.args.i) c.args.c c.args.self.now.rows (search rules) row at rows (search rules))

pub returns-then-not-turn_rows-clause-long : goal.returns-then-not-turn_rows-clause-long
returns-then-not-turn_rows-clause-long c = λ none.
    let s = c.self.inside in
    let n : c.args.t.now.unknowns ≡ c.self.inside.unknowns = c.requires.unknowns ∙ sym (ap (λ (t : TableauRows). t.unknowns) c.self.view_is) in
    let items : c.self.inside.numbers.items ≡ c.deref_mut.result.now = search rules in
    subst (λ (t : TableauRows). list_all is_short_row (map (eliminated (row_at c.args.t.now.rows c.args.i) c.args.c) t.rows) ≡ false) c.self.view_is
    (ap (λ (zs : List ℤ). list_all is_short_row (map (eliminated (row_at c.args.t.now.rows c.args.i) c.args.c) (rows_in s.unknowns s.count zs))) items
    ∙ ap (λ (r : Row). list_all is_short_row (map (eliminated r c.args.c) (rows_in s.unknowns s.count c.deref_mut.result.now))) (sym c.row_numbers-row.ensures.value ∙ ap (λ (k : ℕ). row_of_numbers k c.row_numbers-row.result.now) n)
    ∙ c.turn_rows.ensures.long (search rules))
