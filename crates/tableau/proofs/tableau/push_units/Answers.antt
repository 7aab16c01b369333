use Rattle.tableau.proofs.Words.{◌≡◌, sym, ap, ◌∙◌, List, length, arith, length-map, Row, unit_row, count_from, length-count, count_map, KeptRows, with_more}
use Rattle.tableau.proofs.tableau.push_units.Goals as goal

pub push_unit-requires-clause-room : goal.push_unit-requires-clause-room
push_unit-requires-clause-room c =
    let old = c.args.rows.now in
    let count = length-map (count_from 0 c.loop-c.c) (unit_row old.unknowns old.width) ∙ length-count 0 c.loop-c.c in
    let all : length c.loop-c.rows.rows ≡ c.loop-c.c = ap (λ (t : KeptRows). length t.rows) c.loop-c.invariant ∙ count in
    omega (arith, all, (ap (λ (t : KeptRows). t.most) c.loop-c.invariant), c.requires.room)

pub loop-c-preserved : goal.loop-c-preserved
loop-c-preserved c =
    let old = c.args.rows.now in
    c.push_unit.ensures
    ∙ ap (λ (t : KeptRows). with_more t (unit_row t.unknowns t.width c.loop-c.c)) c.loop-c.invariant
    ∙ ap (λ (rs : List Row). record old { rows = rs }) (sym (count_map (unit_row old.unknowns old.width) c.loop-c.c))
