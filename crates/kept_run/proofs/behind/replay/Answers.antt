use Rattle.kept_run.proofs.Words.{rules, ◌≡◌, ◌∙◌, ◌<◌, sym, get_or, length, row_at, Done, turned, counted_on}
use Rattle.kept_run.proofs.Replaying.{replayed-on}
use Rattle.kept_run.proofs.behind.replay.Goals as goal

pub loop-i-preserved : goal.loop-i-preserved
loop-i-preserved c =
    let ps = c.args.m.now.pivots.rows in
    let cs = c.args.m.now.columns.items in
    let h : c.loop-i.i < length c.args.m.now.columns.items = search rules in
    let t : turned (row_at c.args.m.now.pivots.rows c.loop-i.i) (get_or c.args.m.now.columns.items c.loop-i.i 0) c.loop-i.rows.rows c.loop-i.work ≡ Done c.turn_rows.new.rows.rows c.turn_rows.new.work
    = c.in_ok-turn_rows.ensures.gives.agrees in
    record {
      unknowns = c.in_ok-turn_rows.ensures.unknowns ∙ c.loop-i.invariant.unknowns;
      number = c.in_ok-turn_rows.ensures.number ∙ c.loop-i.invariant.number;
      counted = counted_on c.args.work.now c.loop-i.work c.turn_rows.new.work c.loop-i.invariant.counted c.in_ok-turn_rows.ensures.gives.counted;
      same = sym (replayed-on ps cs c.loop-i.i c.loop-i.rows.rows c.loop-i.work c.requires.formed.lengths h c.turn_rows.new.rows.rows c.turn_rows.new.work t) ∙ c.loop-i.invariant.same;
    }
