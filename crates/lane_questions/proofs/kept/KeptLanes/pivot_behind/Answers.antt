use Rattle.lane_questions.proofs.Words.{rules, arith, ◌≡◌, ◌∙◌, ap, sym, subst, Bool, Some, None, common_steps, AgreesCounted, Done, count_pivot, counted_none, counted_on, ScaledTable, stop_fault, LaneVertex, IsEntering, IsPivoted, front_closes}
use Rattle.pip_problem.specs.Faults.{run_fault}
use Rattle.lane_questions.proofs.OneBehind.{goes_on_pivoted, refused_at_pivot}
use Rattle.lane_questions.proofs.kept.KeptLanes.pivot_behind.Goals as goal

pub returns-in_default : goal.returns-in_default
returns-in_default c =
    let same = ap (λ (v : LaneVertex). v.table) c.self.view_is in
    let none = subst (λ (t : ScaledTable). IsEntering t c.args.row None) same c.in_default.ensures in
    record {
      gives = λ F modest below e. record { agrees = front_closes c.args.self.now.table c.args.row F c.args.work.now none modest below; counted = counted_none c.args.work.now };
      counted = counted_none c.args.work.now;
    }

pub returns-in_err-count_pivot-clause-gives : goal.returns-in_err-count_pivot-clause-gives
returns-in_err-count_pivot-clause-gives c = λ F modest below e.
    let same = ap (λ (v : LaneVertex). v.table) c.self.view_is in
    let enters = subst (λ (t : ScaledTable). IsEntering t c.args.row (Some c.in-Some.c)) same c.in-Some.ensures in
    let told = refused_at_pivot c.args.self.now.table c.args.row c.in-Some.c F c.args.work.now c.count_pivot.new.self (run_fault c.in_err-count_pivot.field-0.0) enters modest below c.in_err-count_pivot.ensures.gives.agrees in
    record { agrees = grind (arith, common_steps, told); counted = c.count_pivot.ensures.gives.counted }

pub returns-clause-gives : goal.returns-clause-gives
returns-clause-gives c = λ F modest below e.
    let same = ap (λ (v : LaneVertex). v.table) c.self.view_is in
    let v = c.count_pivot.new.self in
    let counted : count_pivot c.args.work.now ≡ Done tt c.count_pivot.new.self = search rules in
    let made : IsPivoted c.copy_from.new.self c.pivot_at.new.rows c.args.row c.in-Some.c = search rules in
    let pivoted = subst (λ (t : ScaledTable). IsPivoted t c.pivot_at.new.rows c.args.row c.in-Some.c) ((search rules) ∙ same) made in
    let told = c.run_in_lanes.ensures.gives in
    let on = goes_on_pivoted c.args.self.now.table c.pivot_at.new.rows c.args.row c.in-Some.c F _ c.args.work.now v pivoted modest below e counted in
    record {
      agrees = subst (AgreesCounted (λ (b : Bool). b) stop_fault c.run_in_lanes.result c.run_in_lanes.new.work) (sym on) told.agrees;
      counted = counted_on c.args.work.now v c.run_in_lanes.new.work c.count_pivot.ensures.gives.counted told.counted;
    }
