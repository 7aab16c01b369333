use Rattle.lane_rows.proofs.Words.{get_or, rules, arith, refl, ap, ◌≡◌, ◌∙◌, [], get_or_default, to_z-of_z, scale, turned}
use Rattle.lane_rows.proofs.Turns.{row_turnable, turned_end, turned_step}
use Rattle.lane_rows.proofs.turning.turn_rows.Goals as goal

pub turned_row-requires-clause-turnable : goal.turned_row-requires-clause-turnable
turned_row-requires-clause-turnable c =
    row_turnable _ c.args.p c.args.lane c.args.rows.now c.loop-j.rows c.loop-j.j _ (get_or c.loop-j.rows c.loop-j.j c.index-rows-j.result) c.requires.products c.loop-j.invariant.turned (omega arith)
    (get_or_default c.loop-j.rows c.loop-j.j c.index-rows-j.result [] (omega arith))

pub loop-j-preserved : goal.loop-j-preserved
loop-j-preserved c =
    let l = c.ranges.l in
    let kept = simp to_z-of_z at c.loop-j.invariant.turned in
    let row = get_or c.loop-j.rows c.loop-j.j c.index-rows-j.result in
    let here : row ≡ get_or c.args.rows.now c.loop-j.j [] = get_or_default c.loop-j.rows c.loop-j.j c.index-rows-j.result [] (omega arith) ∙ c.loop-j.invariant.turned.left c.loop-j.j (omega arith) in
    let made : scale c.args.l c.in_ok-row.row ≡ turned c.args.l c.args.p c.args.lane row = search (rules, c.in_ok-row.ensures.made) in
    record {
      lanes = c.covering-sizes.ensures.lanes;
      turned = simp to_z-of_z (turned_step c.args.l c.args.p c.args.lane c.args.rows.now c.loop-j.rows _ c.loop-j.j _ c.loop-j.sizes c.covering-sizes.result c.in_ok-row.row kept (omega arith) refl refl
          (made ∙ ap (turned c.args.l c.args.p c.args.lane) here) c.in_ok-row.ensures.lanes c.covering-sizes.ensures.row c.covering-sizes.ensures.own);
    }

pub returns-clause-made : goal.returns-clause-made
returns-clause-made c =
    let l = c.ranges.l in
    let kept = simp to_z-of_z at c.loop-j.invariant.turned in
    turned_end _ c.args.p c.args.lane c.args.rows.now c.loop-j.rows c.loop-j.j c.size.result _ c.loop-j.sizes (omega arith) kept c.size.ensures.within c.with_bits.ensures.second
