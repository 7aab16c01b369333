use Rattle.point_turns.proofs.Words.{plain_setting, rules, ◌≡◌, Again, Done, turn, node_of}
use Rattle.point_turns.proofs.Pointing.{run_goes_on, run_less}
use Rattle.point_turns.proofs.run.run_on.Goals as goal

pub loop-rows-smaller : goal.loop-rows-smaller
loop-rows-smaller g c =
    let e : turn (plain_setting (g.R.PointRows.table c.loop-rows.rows).unknowns c.args.integer) (node_of (g.R.PointRows.table c.loop-rows.rows).rows) c.loop-rows.work ≡ Done (Again (node_of (g.R.PointRows.table c.take_turn.new.rows).rows)) c.take_turn.new.work = search rules in
    run_less _ _ _ _ _ _ c.loop-rows.invariant c.take_turn.ensures.gives.counted _ e

pub loop-rows-preserved : goal.loop-rows-preserved
loop-rows-preserved g c =
    let e : turn (plain_setting (g.R.PointRows.table c.loop-rows.rows).unknowns c.args.integer) (node_of (g.R.PointRows.table c.loop-rows.rows).rows) c.loop-rows.work ≡ Done (Again (node_of (g.R.PointRows.table c.take_turn.new.rows).rows)) c.take_turn.new.work = search rules in
    run_goes_on _ _ _ _ _ _ c.loop-rows.invariant c.take_turn.ensures.gives.counted _ c.in_ok-take_turn.ensures.scope e
