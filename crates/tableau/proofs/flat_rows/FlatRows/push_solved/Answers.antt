use Rattle.tableau.proofs.Words.{rules, ap, ◌≡◌, ◌++◌, ◌∙◌, subst, sym, all_fit, Row, unit_row, eliminated, eliminated_listed, IsTrue, numbers_of, IsRow, IsMadeReduced, pivot_row, KeptRows, with_more, row_of, arith, length, vec_len}
use Rattle.std.specs.Prelude.{true}
use Rattle.tableau.proofs.Flat.{unsealed, unit_over}
use Rattle.tableau.proofs.Pushed.{pushed, kept_room, room_behind, row_room}
use Rattle.tableau.proofs.flat_rows.FlatRows.push_solved.Goals as goal

pub append_solved-requires-clause-room : goal.append_solved-requires-clause-room
append_solved-requires-clause-room c =
    let s = c.self.inside in
    let given = subst (λ (t : KeptRows). IsRow t.unknowns t.width (row_of c.args.p.now)) (sym c.self.view_is) c.requires.p.row in
    let many : vec_len s.numbers ≡ length s.numbers.items = search rules in
    omega (arith, many, row_room c.args.self.now s.unknowns s.width s.most _ _ s.numbers.items s.kept.items c.self.view_is c.self.invariant.0 c.self.invariant.1 c.requires.room (row_of c.args.p.now) given)

pub append_solved-requires-clause-p : goal.append_solved-requires-clause-p
append_solved-requires-clause-p c = pivot_row c.args.self.now.unknowns c.args.self.now.width c.args.c (row_of c.args.p.now) c.requires.p.row c.requires.p.column c.requires.p.positive

pub seal-requires-clause-unsealed : goal.seal-requires-clause-unsealed
seal-requires-clause-unsealed c =
    let s = c.self.inside in
    let p = row_of c.args.p.now in
    let k = c.args.c in
    let given = subst (λ (t : KeptRows). IsRow t.unknowns t.width p) (sym c.self.view_is) c.requires.p.row in
    let unit = unit_over s.unknowns s.width k p given in
    let items = subst (λ (u : Row). c.append_solved.new.numbers.items ≡ s.numbers.items ++ numbers_of (eliminated p k u)) unit c.append_solved.ensures.appended.items in
    let made = subst (λ (u : Row). IsMadeReduced p true (eliminated p k u)) unit c.append_solved.ensures.made in
    unsealed s.unknowns s.width _ s.numbers.items c.append_solved.new.numbers.items s.kept.items (eliminated p k (unit_row s.unknowns s.width k)) items (search rules) c.self.invariant.0
    (made.row s.unknowns s.width given)
    made.reduced
    made.short

pub returns-clause-listed : goal.returns-clause-listed
returns-clause-listed c =
    let p = row_of c.args.p.now in
    let unit = unit_over c.args.self.now.unknowns c.args.self.now.width c.args.c p c.requires.p.row in
    subst (λ (u : Row). IsTrue (all_fit (eliminated_listed p c.args.c u))) unit c.append_solved.ensures.listed

pub returns-clause-row : goal.returns-clause-row
returns-clause-row c =
    let s = c.self.inside in
    let p = row_of c.args.p.now in
    let k = c.args.c in
    let given = subst (λ (t : KeptRows). IsRow t.unknowns t.width p) (sym c.self.view_is) c.requires.p.row in
    let unit = unit_over s.unknowns s.width k p given in
    let made = eliminated p k (unit_row s.unknowns s.width k) in
    let items = subst (λ (u : Row). c.append_solved.new.numbers.items ≡ s.numbers.items ++ numbers_of (eliminated p k u)) unit c.append_solved.ensures.appended.items in
    let row = (subst (λ (u : Row). IsMadeReduced p true (eliminated p k u)) unit c.append_solved.ensures.made).row s.unknowns s.width given in
    pushed c.args.self.now s.unknowns s.width s.most s.numbers.items c.append_solved.new.numbers.items c.seal.new.numbers.items s.kept.items c.seal.new.kept.items c.len-first.result made c.self.view_is items (search rules) row.coefs
    c.seal.ensures.rows
    ∙ ap (λ (t : KeptRows). with_more c.args.self.now (eliminated p k (unit_row t.unknowns t.width k))) c.self.view_is

pub seal-requires-clause-room : goal.seal-requires-clause-room
seal-requires-clause-room c =
    let s = c.self.inside in
    let many : vec_len s.kept ≡ length s.kept.items = search rules in
    omega (arith, many, kept_room c.args.self.now s.unknowns s.width s.most _ _ s.numbers.items s.kept.items c.self.view_is c.self.invariant.0 c.self.invariant.1 c.requires.room)

pub invariant_of-self : goal.invariant_of-self
invariant_of-self c =
    let s = c.self.inside in
    (c.seal.ensures.flat, room_behind c.args.self.now s.unknowns s.width s.most _ _ s.numbers.items s.kept.items c.self.view_is c.self.invariant.0 c.self.invariant.1 c.requires.room _ _ c.seal.new.kept.items c.seal.ensures.count c.seal.ensures.kept_room (omega (arith, c.seal.ensures.numbers_room, c.append_solved.ensures.appended.room)))
