use Rattle.tableau.proofs.Words.{rules, arith, ◌≡◌, ◌∙◌, ◌+◌, ◌-◌, ◌<◌, subst, sym, widened, IsRow, KeptRows, row_of, widened_is_row, widened_content, widened_short, length, vec_len}
use Rattle.tableau.proofs.Flat.{unsealed}
use Rattle.tableau.proofs.Pushed.{pushed, kept_room, room_behind, length_room, numbers_long}
use Rattle.tableau.proofs.flat_rows.FlatRows.push_widened.Goals as goal

pub append_widened-requires-clause-room : goal.append_widened-requires-clause-room
append_widened-requires-clause-room c =
    let s = c.self.inside in
    let r = row_of c.args.row.now in
    let given = subst (λ (t : KeptRows). IsRow t.unknowns (t.width - 1) r) (sym c.self.view_is) c.requires.row in
    let some = subst (λ (t : KeptRows). 0 < t.width) (sym c.self.view_is) c.requires.width in
    let many : vec_len s.numbers ≡ length s.numbers.items = search rules in
    omega (arith, many, some, numbers_long s.unknowns (s.width - 1) r given, length_room c.args.self.now s.unknowns s.width s.most _ _ s.numbers.items s.kept.items c.self.view_is c.self.invariant.0 c.self.invariant.1 c.requires.room)

pub seal-requires-clause-unsealed : goal.seal-requires-clause-unsealed
seal-requires-clause-unsealed c =
    let s = c.self.inside in
    let r = row_of c.args.row.now in
    let given = subst (λ (t : KeptRows). IsRow t.unknowns (t.width - 1) r) (sym c.self.view_is) c.requires.row in
    let back : s.width - 1 + 1 ≡ s.width = omega (arith, (subst (λ (t : KeptRows). 0 < t.width) (sym c.self.view_is) c.requires.width)) in
    unsealed s.unknowns s.width _ s.numbers.items c.append_widened.new.numbers.items s.kept.items (widened r) c.append_widened.ensures.items (search rules) c.self.invariant.0
    (subst (λ k. IsRow s.unknowns k (widened r)) back (widened_is_row s.unknowns (s.width - 1) r given))
    (widened_content s.unknowns (s.width - 1) r given ∙ c.requires.reduced)
    (λ short. widened_short r (omega (arith, given.constant)) (search rules))

pub returns : goal.returns
returns c =
    let s = c.self.inside in
    let r = row_of c.args.row.now in
    let given = subst (λ (t : KeptRows). IsRow t.unknowns (t.width - 1) r) (sym c.self.view_is) c.requires.row in
    pushed c.args.self.now s.unknowns s.width s.most s.numbers.items c.append_widened.new.numbers.items c.seal.new.numbers.items s.kept.items c.seal.new.kept.items c.len-first.result (widened r) c.self.view_is c.append_widened.ensures.items (search rules) given.coefs
    c.seal.ensures.rows

pub seal-requires-clause-room : goal.seal-requires-clause-room
seal-requires-clause-room c =
    let s = c.self.inside in
    let many : vec_len s.kept ≡ length s.kept.items = search rules in
    omega (arith, many, kept_room c.args.self.now s.unknowns s.width s.most _ _ s.numbers.items s.kept.items c.self.view_is c.self.invariant.0 c.self.invariant.1 c.requires.room)

pub invariant_of-self : goal.invariant_of-self
invariant_of-self c =
    let s = c.self.inside in
    (c.seal.ensures.flat, room_behind c.args.self.now s.unknowns s.width s.most _ _ s.numbers.items s.kept.items c.self.view_is c.self.invariant.0 c.self.invariant.1 c.requires.room _ _ c.seal.new.kept.items c.seal.ensures.count c.seal.ensures.kept_room (omega (arith, c.seal.ensures.numbers_room, c.append_widened.ensures.room)))
