use Rattle.tableau.proofs.Words.{rules, subst, sym, divided, IsRow, KeptRows, row_of, arith, ◌≡◌, length, vec_len}
use Rattle.tableau.proofs.Flat.{unsealed}
use Rattle.tableau.proofs.Pushed.{kept_room, room_behind, row_room}
use Rattle.tableau.proofs.flat_rows.FlatRows.push_divided.Goals as goal

pub append_divided-short-requires-clause-room : goal.append_divided-short-requires-clause-room
append_divided-short-requires-clause-room c =
    let s = c.self.inside in
    let given = subst (λ (t : KeptRows). IsRow t.unknowns t.width (row_of c.args.row.now)) (sym c.self.view_is) c.requires.row in
    let many : vec_len s.numbers ≡ length s.numbers.items = search rules in
    omega (arith, many, row_room c.args.self.now s.unknowns s.width s.most _ _ s.numbers.items s.kept.items c.self.view_is c.self.invariant.0 c.self.invariant.1 c.requires.room (row_of c.args.row.now) given)

pub seal-requires-clause-unsealed : goal.seal-requires-clause-unsealed
seal-requires-clause-unsealed c =
    let s = c.self.inside in
    let given = subst (λ (t : KeptRows). IsRow t.unknowns t.width (row_of c.args.row.now)) (sym c.self.view_is) c.requires.row in
    unsealed s.unknowns s.width _ s.numbers.items c.append_divided-short.new.numbers.items s.kept.items (divided (row_of c.args.row.now)) c.append_divided-short.ensures.appended.items (search rules) c.self.invariant.0
    (c.append_divided-short.ensures.made.row s.unknowns s.width given)
    c.append_divided-short.ensures.made.reduced
    c.append_divided-short.ensures.made.short

pub seal-requires-clause-room : goal.seal-requires-clause-room
seal-requires-clause-room c =
    let s = c.self.inside in
    let many : vec_len s.kept ≡ length s.kept.items = search rules in
    omega (arith, many, kept_room c.args.self.now s.unknowns s.width s.most _ _ s.numbers.items s.kept.items c.self.view_is c.self.invariant.0 c.self.invariant.1 c.requires.room)

pub invariant_of-self : goal.invariant_of-self
invariant_of-self c =
    let s = c.self.inside in
    (c.seal.ensures.flat, room_behind c.args.self.now s.unknowns s.width s.most _ _ s.numbers.items s.kept.items c.self.view_is c.self.invariant.0 c.self.invariant.1 c.requires.room _ _ c.seal.new.kept.items c.seal.ensures.count c.seal.ensures.kept_room (omega (arith, c.seal.ensures.numbers_room, c.append_divided-short.ensures.appended.room)))
