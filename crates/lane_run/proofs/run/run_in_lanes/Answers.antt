use Rattle.lane_run.proofs.Words.{rules, ◌≡◌, ◌∙◌, ◌++◌, Done, Again, turn, point_setting, node_of, run_rows, forms_of}
use Rattle.lane_run.proofs.SameRun.{same_on, less_left, turn_over}
use Rattle.lane_run.proofs.run.run_in_lanes.Goals as goal

pub loop-found-smaller : goal.loop-found-smaller
loop-found-smaller c =
    let rows = c.loop-found.rows in
    let now = c.turn_or_end.new.rows in
    let turned : turn (point_setting c.loop-found.rows.unknowns) (node_of (run_rows c.loop-found.rows (forms_of c.loop-found.rows.unknowns (c.args.forms.forms.now ++ c.args.forms.further.now)))) c.loop-found.work
    ≡ Done (Again (node_of (run_rows c.turn_or_end.new.rows (forms_of c.loop-found.rows.unknowns (c.args.forms.forms.now ++ c.args.forms.further.now))))) c.turn_or_end.new.work = search rules in
    less_left _ (run_rows c.args.rows.now (forms_of _ _)) (run_rows rows (forms_of _ _)) c.args.work.now c.loop-found.work c.turn_or_end.new.work c.loop-found.invariant.run c.turn_or_end.ensures.counted
    (run_rows now (forms_of _ _)) (turn_over _ _ rows now _ c.loop-found.work c.turn_or_end.new.work c.loop-found.invariant.unknowns turned)

pub loop-found-preserved : goal.loop-found-preserved
loop-found-preserved c =
    let rows = c.loop-found.rows in
    let now = c.turn_or_end.new.rows in
    let turned : turn (point_setting c.loop-found.rows.unknowns) (node_of (run_rows c.loop-found.rows (forms_of c.loop-found.rows.unknowns (c.args.forms.forms.now ++ c.args.forms.further.now)))) c.loop-found.work
    ≡ Done (Again (node_of (run_rows c.turn_or_end.new.rows (forms_of c.loop-found.rows.unknowns (c.args.forms.forms.now ++ c.args.forms.further.now))))) c.turn_or_end.new.work = search rules in
    record {
      unknowns = c.in_ok-found.ensures.unknowns ∙ c.loop-found.invariant.unknowns;
      run = same_on _ (run_rows c.args.rows.now (forms_of _ _)) (run_rows rows (forms_of _ _)) c.args.work.now c.loop-found.work c.turn_or_end.new.work c.loop-found.invariant.run c.turn_or_end.ensures.counted
          (run_rows now (forms_of _ _)) (turn_over _ _ rows now _ c.loop-found.work c.turn_or_end.new.work c.loop-found.invariant.unknowns turned);
    }
