use Rattle.tableau.proofs.Words.{rules, arith, ◌∙◌, ap, List, common_steps, Row, unit_row, eliminated, lent_row, row_of, Kept}
use Rattle.tableau.proofs.Parted.{all_made, first_made, formed_next, next_swapped, second_made, sides_solvable}
use Rattle.tableau.proofs.Sides.{turned_pivot, turned_sides}
use Rattle.tableau.proofs.Turning.{still_spare}
use Rattle.tableau.proofs.flat_rows.FlatRows.turn.Goals as goal

pub invariant_of-pivot : goal.invariant_of-pivot
invariant_of-pivot c = record { solvable = sides_solvable c.args.c c.sides.ensures c.requires.pivot }

pub turn_rows-requires : goal.turn_rows-requires
turn_rows-requires c =
    let s = c.sides.ensures in
    record { room = omega (arith, s.begun.count, s.begun.spare.room, s.count); over = s.begun.over; lent = s.front_lent }

pub push_unit-requires : goal.push_unit-requires
push_unit-requires c =
    let turn = λ (k : Kept). eliminated (row_of c.sides.result.2) c.args.c (lent_row c.sides.result.0 k) in
    let first = first_made turn c.sides.ensures c.turn_rows.new.next c.in_ok-turn_rows.ensures.ok in
    record { room = omega (arith, first.count, first.spare.room); column = omega (arith, first.spare.unknowns, c.requires.pivot.column) }

pub turn_rows-requires-2 : goal.turn_rows-requires-2
turn_rows-requires-2 c =
    let s = c.sides.ensures in
    let turn = λ (k : Kept). eliminated (row_of c.sides.result.2) c.args.c (lent_row c.sides.result.0 k) in
    let second = second_made turn s c.turn_rows.new.next c.push_unit.new.self _ c.in_ok-turn_rows.ensures.ok c.push_unit.ensures in
    record { room = omega (arith, second.count, second.spare.room); over = second.over; lent = s.back_lent }

pub returns-in_err-turn_rows-clause-listed : goal.returns-in_err-turn_rows-clause-listed
returns-in_err-turn_rows-clause-listed c =
    let s = c.sides.ensures in
    let both = turned_sides (lent_row c.sides.result.0) c.args.self.now.rows c.sides.result.1.now c.sides.result.3.now (row_of c.sides.result.2) c.args.r c.args.c s.front s.back s.row in
    grind (arith, common_steps, both)

pub returns-in_err-turn_rows-clause-spare : goal.returns-in_err-turn_rows-clause-spare
returns-in_err-turn_rows-clause-spare c = still_spare c.sides.ensures.begun.spare c.turn_rows.ensures.shape

pub returns-in_err-turn_rows-2-clause-listed : goal.returns-in_err-turn_rows-2-clause-listed
returns-in_err-turn_rows-2-clause-listed c =
    let s = c.sides.ensures in
    let both = turned_sides (lent_row c.sides.result.0) c.args.self.now.rows c.sides.result.1.now c.sides.result.3.now (row_of c.sides.result.2) c.args.r c.args.c s.front s.back s.row in
    grind (arith, common_steps, both)

pub returns-in_err-turn_rows-2-clause-spare : goal.returns-in_err-turn_rows-2-clause-spare
returns-in_err-turn_rows-2-clause-spare c =
    let turn = λ (k : Kept). eliminated (row_of c.sides.result.2) c.args.c (lent_row c.sides.result.0 k) in
    let second = second_made turn c.sides.ensures c.turn_rows.new.next c.push_unit.new.self _ c.in_ok-turn_rows.ensures.ok c.push_unit.ensures in
    still_spare second.spare c.turn_rows-2.ensures.shape

pub returns : goal.returns
returns c =
    let s = c.sides.ensures in
    let l = c.sides.result.0 in
    let p = row_of c.sides.result.2 in
    let rows = c.args.self.now.rows in
    let fs = c.sides.result.1.now in
    let bs = c.sides.result.3.now in
    let turn = λ (k : Kept). eliminated p c.args.c (lent_row l k) in
    let made = c.turn_rows.new.next in
    let first = first_made turn s made c.in_ok-turn_rows.ensures.ok in
    let last = all_made turn s made c.push_unit.new.self c.turn_rows-2.new.next (unit_row made.unknowns made.width c.args.c) c.in_ok-turn_rows.ensures.ok c.push_unit.ensures c.in_ok-turn_rows-2.ensures.ok in
    record {
      listed = turned_sides (lent_row l) rows fs bs p c.args.r c.args.c s.front s.back s.row ∙ search rules;
      ok = last.is
          ∙ ap (λ (rs : List Row). record c.args.next.now { rows = rs })
          (turned_pivot (lent_row l) rows fs bs p c.args.r c.args.c made.unknowns made.width c.requires.pivot.row s.front s.back s.row (formed_next made l p first.over s.formed));
      spare = last.spare;
      swapped = next_swapped last s.few;
    }
