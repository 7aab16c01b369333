use Rattle.tableau.proofs.Words.{rules, refl, arith, ◌∙◌, ap, sym, subst, List, IsTrue, IsFalse, slice_set, all_fit, Row, rounded, rounded_listed, KeptRows, IsSpare, lent_row, lent_rows, row_of}
use Rattle.tableau.proofs.Parted.{all_made, first_made, formed_next, next_swapped, second_made}
use Rattle.tableau.proofs.Sides.{replaced_row}
use Rattle.tableau.proofs.flat_rows.FlatRows.round.Goals as goal

pub copy_rows-requires : goal.copy_rows-requires
copy_rows-requires c =
    let s = c.sides.ensures in
    record { room = omega (arith, s.begun.count, s.begun.spare.room, s.count); over = s.begun.over; lent = s.front_lent }

pub push_rounded-requires : goal.push_rounded-requires
push_rounded-requires c =
    let first = first_made (lent_row c.sides.result.0) c.sides.ensures c.copy_rows.new.next c.copy_rows.ensures in
    record {
      room = omega (arith, first.count, first.spare.room);
      row = formed_next c.copy_rows.new.next c.sides.result.0 (row_of c.sides.result.2) first.over c.sides.ensures.formed;
      place = omega (arith, first.spare.width, c.requires.place);
    }

pub copy_rows-requires-2 : goal.copy_rows-requires-2
copy_rows-requires-2 c =
    let s = c.sides.ensures in
    let second = second_made (lent_row c.sides.result.0) s c.copy_rows.new.next c.push_rounded.new.self _ c.copy_rows.ensures c.in_ok-push_rounded.ensures.ok in
    record { room = omega (arith, second.count, second.spare.room); over = second.over; lent = s.back_lent }

pub returns-in_err-push_rounded-clause-listed : goal.returns-in_err-push_rounded-clause-listed
returns-in_err-push_rounded-clause-listed c =
    let refused = subst (λ (r : Row). IsFalse (all_fit (rounded_listed r c.args.q))) c.sides.ensures.row (c.in_err-push_rounded.ensures.listed refl) in
    search (rules, refused)

pub returns-in_err-push_rounded-clause-spare : goal.returns-in_err-push_rounded-clause-spare
returns-in_err-push_rounded-clause-spare c =
    let first = first_made (lent_row c.sides.result.0) c.sides.ensures c.copy_rows.new.next c.copy_rows.ensures in
    subst (λ (u : KeptRows). IsSpare c.args.self.now u c.args.units.now) (sym c.in_err-push_rounded.ensures.err) first.spare

pub returns : goal.returns
returns c =
    let s = c.sides.ensures in
    let l = c.sides.result.0 in
    let rows = c.args.self.now.rows in
    let one = rounded (row_of c.sides.result.2) c.args.q in
    let last = all_made (lent_row l) s c.copy_rows.new.next c.push_rounded.new.self c.copy_rows-2.new.next one c.copy_rows.ensures c.in_ok-push_rounded.ensures.ok c.copy_rows-2.ensures in
    record {
      listed = subst (λ (r : Row). IsTrue (all_fit (rounded_listed r c.args.q))) s.row c.in_ok-push_rounded.ensures.listed;
      ok = last.is
          ∙ ap (λ (rs : List Row). record c.args.next.now { rows = rs })
          (replaced_row rows (lent_rows l c.sides.result.1.now) (lent_rows l c.sides.result.3.now) c.args.r one c.requires.row s.front s.back
          ∙ ap (λ (r : Row). slice_set rows c.args.r (rounded r c.args.q)) s.row);
      spare = last.spare;
      swapped = next_swapped last s.few;
    }
