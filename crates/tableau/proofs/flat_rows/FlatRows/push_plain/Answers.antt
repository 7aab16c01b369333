use Rattle.tableau.proofs.Words.{rules, arith, ap, ◌≡◌, subst, sym, List, length, common_steps, Row, row_of_numbers, KeptRows, IsPlainRow, row_length, rows_kept, with_more, RowPlace}
use Rattle.tableau.proofs.Flat.{with_plain, rows_more}
use Rattle.tableau.proofs.flat_rows.FlatRows.push_plain.Goals as goal

pub invariant_of-self : goal.invariant_of-self
invariant_of-self c =
    let s = c.self.inside in
    let xs = c.args.numbers.now in
    let room = c.self.invariant.1 in
    let last : RowPlace = record { first = c.len-first.result; short = c.args.short } in
    let plain = subst (λ (t : KeptRows). IsPlainRow t.unknowns t.width xs c.args.short) (sym c.self.view_is) c.requires.row in
    let whole = with_plain s.unknowns s.width s.numbers.items xs s.kept.items last c.self.invariant.0 (search rules) plain in
    (rw (c.append_entries.ensures.items, c.append_kept.ensures.items) whole, record { few = grind (arith, common_steps); kept = search rules; numbers = search rules })

pub returns : goal.returns
returns c =
    let s = c.self.inside in
    let xs = c.args.numbers.now in
    let last : RowPlace = record { first = c.len-first.result; short = c.args.short } in
    let long = subst (λ (t : KeptRows). length xs ≡ row_length t.unknowns t.width) (sym c.self.view_is) c.requires.row.length in
    let rows = rows_more s.unknowns s.width s.numbers.items xs s.kept.items last c.self.invariant.0.places (search rules) long in
    subst (λ (t : KeptRows). record { unknowns = s.unknowns; width = s.width; most = s.most; rows = rows_kept s.unknowns s.width c.append_entries.new.numbers.items c.append_kept.new.kept.items } ≡ with_more t (row_of_numbers t.unknowns xs)) c.self.view_is
    (ap (λ (rs : List Row). record { unknowns = s.unknowns; width = s.width; most = s.most; rows = rs })
    (rw (c.append_entries.ensures.items, c.append_kept.ensures.items) rows))
